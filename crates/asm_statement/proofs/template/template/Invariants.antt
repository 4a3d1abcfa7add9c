use Rattle.std.proofs.Common.{◌≡◌, drop}
use Rattle.asm_statement.specs.Templates.{template_of}
use Rattle.c_literals.proofs.LiteralLemmas.{after}
use Rattle.asm_statement.proofs.template.template.Given as goal

-- what was read, and what is left, are what the whole gives
abbrev pub invariant-loop-token : goal.invariant-loop-token
invariant-loop-token l = after l.list.items (template_of l.text (drop l.token-index l.tokens)) ≡ template_of l.text l.tokens
