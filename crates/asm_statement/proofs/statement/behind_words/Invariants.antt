use Rattle.std.proofs.Common.{◌≡◌, ◌-◌, drop, length}
use Rattle.asm_statement.specs.Statements.{words_end, behind_words}
use Rattle.asm_statement.proofs.statement.behind_words.Given as goal

-- what is left gives what the whole gives
abbrev pub invariant-loop-i : goal.invariant-loop-i
invariant-loop-i l = words_end l.goto l.source.text.now l.i (drop l.i l.source.tokens.now) ≡ behind_words l.goto l.source.text.now l.source.tokens.now l.keyword

abbrev pub decreases-loop-i : goal.decreases-loop-i
decreases-loop-i l = length l.source.tokens.now - l.i
