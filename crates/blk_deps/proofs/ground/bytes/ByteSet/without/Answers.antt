use Rattle.blk_deps.proofs.GroundBytes.{cells_without}
use Rattle.blk_deps.proofs.ground.bytes.ByteSet.without.Goals as goal

pub returns : goal.returns
returns c = cells_without c.args.self.first c.args.self.second c.args.self.third c.args.others.first
    c.args.others.second c.args.others.third _ _ _ c.without.ensures c.without-2.ensures c.without-3.ensures
