use Rattle.std.proofs.Common.{◌≡◌, ◌≤◌, ◌<◌, ◌-◌, drop, length}
use Rattle.asm_statement.specs.Operands.{literals_end, literals_end_at}
use Rattle.asm_statement.proofs.operand.literals_end.Given as goal

-- what is left gives what the whole gives
abbrev pub invariant-loop-i : goal.invariant-loop-i
invariant-loop-i l = (l.first ≤ l.i) × (l.first < l.i → l.i ≤ length l.source.tokens.now) × (literals_end l.prefixed l.source.text.now l.i (drop l.i l.source.tokens.now) ≡ literals_end_at l.prefixed l.source.text.now l.source.tokens.now l.first)

abbrev pub decreases-loop-i : goal.decreases-loop-i
decreases-loop-i l = length l.source.tokens.now - l.i
