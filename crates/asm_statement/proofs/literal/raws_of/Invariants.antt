use Rattle.std.proofs.Common.{◌≡◌, ◌++◌, drop}
use Rattle.asm_statement.specs.Literals.{raws_of}
use Rattle.asm_statement.proofs.literal.raws_of.Given as goal

-- what was read, and what is left, are what the whole gives
abbrev pub invariant-loop-token : goal.invariant-loop-token
invariant-loop-token l = l.raws.items ++ raws_of l.text (drop l.token-index l.tokens) ≡ raws_of l.text l.tokens
