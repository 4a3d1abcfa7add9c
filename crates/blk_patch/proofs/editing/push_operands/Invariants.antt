use Rattle.std.proofs.Common.{◌≡◌, ◌++◌, take}
use Rattle.blk_patch.specs.Edits.{operand_edits}
use Rattle.blk_patch.proofs.editing.push_operands.Given as goal

abbrev pub invariant-loop-n : goal.invariant-loop-n
invariant-loop-n l = l.edits ≡ l.initial.edits ++ operand_edits l.items l.first (take l.n l.operands)
