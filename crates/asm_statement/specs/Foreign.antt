-- Tokens that the compiler cuts otherwise than c_tokens: digraphs (C11 6.4.6, 3), raw strings (GNU C from
-- gnu99 on), separators of digits (C23 6.4.4.1) and `_Pragma` (C11 6.10.9). None of them stands in other C.
use Rattle.std.specs.Prelude.{ℕ, Bool, true, false, List, ◌+◌, ◌==◌, ◌||◌, ◌&&◌, codes, slice_index, slice_range}
use Rattle.c_tokens.specs.declared.token.Token.{Token}
use Rattle.c_tokens.specs.declared.token.TokenKind.TheVariants as kinds
use Rattle.asm_statement.specs.Classes.{same}

-- `<%` `<:` `%>` `%:` `:>`
abbrev pub is_digraph : ℕ → ℕ → Bool
is_digraph b c =
    ((b == 60) && ((c == 37) || (c == 58))) || ((b == 37) && ((c == 62) || (c == 58))) || ((b == 58) && (c == 62))

-- a digraph begins with the token
abbrev pub begins_digraph : List ℕ → Token → Bool
begins_digraph text t = elim t.kind [
  | kinds.Punct ↦ is_digraph (slice_index text t.span.from) (slice_index text (t.span.from + 1))
  | _ ↦ false
]

abbrev pub is_raw_prefix : List ℕ → Bool
is_raw_prefix name = same name (codes "R") || same name (codes "LR") || same name (codes "uR")
    || same name (codes "UR") || same name (codes "u8R")

abbrev pub is_foreign_name : List ℕ → ℕ → Bool
is_foreign_name name next = same name (codes "_Pragma") || (is_raw_prefix name && (next == 34))

-- the compiler cuts what stands at the token otherwise
abbrev pub is_foreign : List ℕ → Token → Bool
is_foreign text t = elim t.kind [
  | kinds.Name ↦ is_foreign_name (slice_range text t.span.from t.span.to) (slice_index text t.span.to)
  | kinds.Number ↦ slice_index text t.span.to == 39
  | kinds.Punct ↦ is_digraph (slice_index text t.span.from) (slice_index text (t.span.from + 1))
  | _ ↦ false
]
