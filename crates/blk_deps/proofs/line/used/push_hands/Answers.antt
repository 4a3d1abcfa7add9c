use Rattle.std.proofs.Common.{refl}
use Rattle.blk_deps.proofs.RangeSteps.{range_next}
use Rattle.blk_deps.proofs.line.used.push_hands.Goals as goal

pub loop-n-preserved : goal.loop-n-preserved
loop-n-preserved c = range_next c.args.hand c.loop-n.n _ c.args.hands.now c.loop-n.hands _ c.loop-n.invariant c.in_ok-push.ensures.ok refl
