use Rattle.std.proofs.Common.{◌≡◌, ◌++◌, drop}
use Rattle.asm_core.specs.Comments.{comments_from, comments_of}
use Rattle.asm_template.proofs.comments.comments.Given as goal

-- what is marked, and what is left, are the marks of the whole
abbrev pub invariant-loop-i : goal.invariant-loop-i
invariant-loop-i l = l.marks.items ++ comments_from l.codes l.until l.i (drop l.i l.codes) ≡ comments_of l.codes
