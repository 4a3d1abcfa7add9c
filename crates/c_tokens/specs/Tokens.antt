-- The tokens of a text, or its one fault (C11 6.4 in this project's profile).
use Rattle.std.specs.Prelude.{◌≡◌, ℕ, List, [], ◌∷◌, ◌+◌, nat_lt, if◌then◌else◌, Option, Some, None, Result, Ok, Err}
use Rattle.c_tokens.specs.declared.token.Token.{Token}
use Rattle.c_tokens.specs.declared.token.TokenKind.{TokenKind}
use Rattle.c_tokens.specs.declared.item.Item.TheVariants as items
use Rattle.c_tokens.specs.declared.token_end.TokenEnd.{TokenEnd}
use Rattle.c_tokens.specs.declared.token_end.TokenEnd.TheVariants as ends
use Rattle.c_tokens.specs.Items.{item_at}
use Rattle.c_tokens.specs.Brackets.{unbalanced_at}

abbrev pub token : TokenKind → ℕ → ℕ → Token
token kind from to = record { kind = kind; span = record { from = from; to = to } }

abbrev pub with_first : Token → Result (List Token) TokenEnd → Result (List Token) TokenEnd
with_first t (Ok ts) = Ok (t ∷ ts)
with_first t (Err e) = Err e

-- The tokens from an offset on, brackets aside: `bs` are the bytes from the offset `i` on, those before `until` are taken.
unfoldable pub tokens_from : List ℕ → ℕ → ℕ → List ℕ → Result (List Token) TokenEnd
tokens_from text until i [] = Ok []
tokens_from text until i (b ∷ bs) =
    if nat_lt i until then tokens_from text until (i + 1) bs
    else elim (item_at text i) [
      | items.White e ↦ tokens_from text e (i + 1) bs
      | items.Piece kind e ↦ with_first (token kind i e) (tokens_from text e (i + 1) bs)
      | items.OpenString ↦ Err (ends.OpenString i)
      | items.OpenComment ↦ Err (ends.OpenComment i)
      | items.BadByte ↦ Err (ends.BadByte i)
    ]

abbrev pub balanced : List Token → Option ℕ → Result (List Token) TokenEnd
balanced ts None = Ok ts
balanced ts (Some o) = Err (ends.Unbalanced o)

abbrev pub checked : List ℕ → Result (List Token) TokenEnd → Result (List Token) TokenEnd
checked text (Ok ts) = balanced ts (unbalanced_at text [] ts)
checked text (Err e) = Err e

-- The tokens of the text, or its first fault from the left; an unbalanced bracket is a fault only where there is no other.
unfoldable pub tokens_of : List ℕ → Result (List Token) TokenEnd
tokens_of text = checked text (tokens_from text 0 0 text)

-- What a call answered is what reading gives, unless memory ran out.
abbrev pub Fails : {Y : Type 0} → TokenEnd → Result Y TokenEnd → Type 0
Fails ends.Memory read = Unit {0}
Fails (ends.OpenString o) read = read ≡ Err (ends.OpenString o)
Fails (ends.OpenComment o) read = read ≡ Err (ends.OpenComment o)
Fails (ends.BadByte o) read = read ≡ Err (ends.BadByte o)
Fails (ends.Unbalanced o) read = read ≡ Err (ends.Unbalanced o)

abbrev pub Gives : {X Y : Type 0} → (X → Y) → Result X TokenEnd → Result Y TokenEnd → Type 0
Gives view (Ok x) read = read ≡ Ok (view x)
Gives view (Err e) read = Fails e read
