use Rattle.std.proofs.Common.{◌≡◌, ◌≤◌, ◌++◌, drop, length}
use Rattle.c_tokens.specs.Splice.{AreApart, spliced_from}
use Rattle.c_tokens.proofs.edits.splice.Given as goal

-- what is written, and what is left, is the whole
abbrev pub invariant-loop-edit : goal.invariant-loop-edit
invariant-loop-edit l =
    (l.from ≤ length l.text)
    × AreApart l.from (drop l.edit-index l.edits) (length l.text)
    × (l.out.items ++ spliced_from l.text l.from (drop l.edit-index l.edits) ≡ spliced_from l.text 0 l.edits)
