use Rattle.std.proofs.Common.{take}
use Rattle.blk_check.specs.Judged.{AnyHasRoom}
use Rattle.blk_check.proofs.room.any_has_room.Given as goal

-- none of the shapes so far has room
abbrev pub invariant-loop-shape : goal.invariant-loop-shape
invariant-loop-shape l = AnyHasRoom l.fn.interface (take l.shape-index l.shapes) → ⊥
