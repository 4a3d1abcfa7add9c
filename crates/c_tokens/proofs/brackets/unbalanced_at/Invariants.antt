use Rattle.std.proofs.Common.{◌≡◌, [], drop}
use Rattle.c_tokens.specs.Brackets.{unbalanced_at}
use Rattle.c_tokens.proofs.brackets.unbalanced_at.Given as goal

-- what is left gives what the whole gives
abbrev pub invariant-loop-token : goal.invariant-loop-token
invariant-loop-token l = unbalanced_at l.text l.opened.items (drop l.token-index l.tokens) ≡ unbalanced_at l.text [] l.tokens
