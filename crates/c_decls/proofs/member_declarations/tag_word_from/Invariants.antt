use Rattle.std.proofs.Common.{◌≡◌, ◌≤◌, ◌-◌, length}
use Rattle.c_decls.specs.Members.{tag_word_from}
use Rattle.c_decls.proofs.member_declarations.tag_word_from.Given as goal

-- what is left gives what the whole gives
abbrev pub invariant-loop-i : goal.invariant-loop-i
invariant-loop-i l = (l.first ≤ length l.source.tokens → l.i ≤ length l.source.tokens) × (tag_word_from l.source l.i l.end ≡ tag_word_from l.source l.first l.end)

abbrev pub decreases-loop-i : goal.decreases-loop-i
decreases-loop-i l = length l.source.tokens - l.i
