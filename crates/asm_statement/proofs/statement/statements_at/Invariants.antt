use Rattle.std.proofs.Common.{◌≡◌, ◌++◌, drop}
use Rattle.asm_statement.specs.Statements.{statements_from}
use Rattle.asm_statement.proofs.statement.statements_at.Given as goal

-- what was read, and what is left, are what the whole gives
abbrev pub invariant-loop-k : goal.invariant-loop-k
invariant-loop-k l = l.list ++ statements_from l.source.text.now l.source.tokens.now (drop l.k l.begun) ≡ statements_from l.source.text.now l.source.tokens.now l.begun
