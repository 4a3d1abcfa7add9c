use Rattle.std.proofs.Common.{◌≡◌, ◌-◌, drop, length}
use Rattle.asm_statement.specs.Operands.{operands_from}
use Rattle.asm_statement.proofs.OperandListLemmas.{after}
use Rattle.asm_statement.proofs.list.operands_from.Given as goal

-- what was read, and what is left, are what the whole gives
abbrev pub invariant-loop-i : goal.invariant-loop-i
invariant-loop-i l =
    after l.list (operands_from l.source.text.now l.source.tokens.now l.i l.i (drop l.i l.source.tokens.now)) ≡ operands_from l.source.text.now l.source.tokens.now l.first l.first (drop l.first l.source.tokens.now)

abbrev pub decreases-loop-i : goal.decreases-loop-i
decreases-loop-i l = length l.source.tokens.now - l.i
