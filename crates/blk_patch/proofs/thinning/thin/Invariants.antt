use Rattle.std.proofs.Common.{◌-◌, length}
use Rattle.blk_patch.proofs.ThinLaws.{IsThinning}
use Rattle.blk_patch.proofs.thinning.thin.Given as goal

abbrev pub invariant-items : goal.invariant-items
invariant-items l = IsThinning l.statement l.interface l.fn.items l.at l.items

abbrev pub decreases-items : goal.decreases-items
decreases-items l = length l.items - l.at
