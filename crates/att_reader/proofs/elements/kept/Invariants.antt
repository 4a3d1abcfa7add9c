use Rattle.std.proofs.Common.{◌≡◌, ◌++◌, drop}
use Rattle.asm_core.specs.Comments.{kept}
use Rattle.asm_core.specs.Pieces.{piece_code}
use Rattle.att_reader.proofs.elements.kept.Given as goal

-- those so far and those that are left are all
abbrev pub invariant-loop-i : goal.invariant-loop-i
invariant-loop-i l = l.left.items ++ kept piece_code (drop l.i l.pieces) (drop l.i l.marks) ≡ kept piece_code l.pieces l.marks
