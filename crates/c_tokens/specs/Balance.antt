-- Brackets that match.
use Rattle.std.specs.Prelude.{◌≡◌, ℕ, true, false, List, [], ◌∷◌, ◌++◌}
use Rattle.c_tokens.specs.declared.token.Token.{Token}
use Rattle.c_tokens.specs.Brackets.{mark_of, opens, closes, partner_of}

-- Tokens in which each bracket that opens is closed by one of its kind, with balanced tokens between.
pub data IsBalanced (text : List ℕ) : List Token → Type 0 where
  none : IsBalanced text []
  other : (t : Token) (ts : List Token) → opens (mark_of text t) ≡ false → closes (mark_of text t) ≡ false → IsBalanced text ts → IsBalanced text (t ∷ ts)
  pair : (o c : Token) (inside behind : List Token) → opens (mark_of text o) ≡ true → closes (mark_of text c) ≡ true → mark_of text o ≡ partner_of (mark_of text c)
      → IsBalanced text inside → IsBalanced text behind → IsBalanced text (o ∷ inside ++ c ∷ behind)
