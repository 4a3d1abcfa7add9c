use Rattle.std.proofs.Common.{◌-◌, length}
use Rattle.blk_patch.specs.Rounds.{IsReached}
use Rattle.blk_patch.proofs.rounds.reach.Given as goal

abbrev pub invariant-rounds : goal.invariant-rounds
invariant-rounds l = IsReached l.statement l.interface l.items

-- there are 99 items
abbrev pub decreases-rounds : goal.decreases-rounds
decreases-rounds l = 99 - length l.items
