use Rattle.std.proofs.Common.{arith}
use Rattle.blk_deps.proofs.NameMasks.{masks_none, masks_more, masks_all}
use Rattle.blk_deps.proofs.rules.names.PlaceNames.of.Goals as goal

pub loop-p-init : goal.loop-p-init
loop-p-init c = masks_none _ 37 (omega arith)

pub loop-p-preserved : goal.loop-p-preserved
loop-p-preserved c = masks_more _ _ _ _ _ c.loop-p-test.true c.loop-p.invariant c.add_name.ensures

pub returns : goal.returns
returns c = masks_all _ _ _ c.loop-p-test.false c.loop-p.invariant
