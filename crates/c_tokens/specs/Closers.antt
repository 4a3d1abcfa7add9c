-- The bracket that closes another.
use Rattle.std.specs.Prelude.{◌≡◌, ℕ, List, [], ◌∷◌, ◌+◌, ◌-◌, ◌==◌, ◌<◌, if◌then◌else◌, Option, Some, None, length, drop, slice_index_or}
use Rattle.c_tokens.specs.declared.token.Token.{Token}
use Rattle.c_tokens.specs.Brackets.{mark_of, opens, closes}

-- Among the tokens from the index i on, behind `depth` brackets that opened and haven't closed: the first that closes more than opened.
unfoldable pub closing_from : List ℕ → ℕ → ℕ → List Token → Option ℕ
closing_from text depth i [] = None
closing_from text depth i (t ∷ ts) =
    if opens (mark_of text t) then closing_from text (depth + 1) (i + 1) ts
    else if closes (mark_of text t) then (if depth == 0 then Some i else closing_from text (depth - 1) (i + 1) ts)
    else closing_from text depth (i + 1) ts

-- the index of the token that closes the bracket that the token at the index opens
abbrev pub closer_in : List ℕ → ℕ → List Token → Option ℕ
closer_in text i [] = None
closer_in text i (t ∷ ts) = if opens (mark_of text t) then closing_from text 0 (i + 1) ts else None

abbrev pub closer_at : List ℕ → List Token → ℕ → Option ℕ
closer_at text ts i = closer_in text i (drop i ts)

-- one answer for each token
pub record AreClosers (text : List ℕ) (ts : List Token) (closers : List (Option ℕ)) : Type 0 where
  pub many : length closers ≡ length ts
  pub each : (i : ℕ) → i < length ts → slice_index_or closers i None ≡ closer_at text ts i
