use Rattle.std.proofs.Common.{take}
use Rattle.blk_check.specs.Judged.{AnyHasRoom}
use Rattle.blk_check.proofs.room.first_roomy.Given as goal

-- none of the shapes so far has room
abbrev pub invariant-loop-k : goal.invariant-loop-k
invariant-loop-k l = AnyHasRoom l.fn.interface (take l.k l.shapes) → ⊥
