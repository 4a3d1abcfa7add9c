-- A text cut into tokens and white space.
use Rattle.std.specs.Prelude.{◌≡◌, ℕ, Bool, true, false, List, [], ◌∷◌, ◌+◌, ◌<◌, ◌≤◌, ◌||◌, ◌==◌, nat_le, ◌&&◌, length, slice_index, slice_range, Some, Result, Ok, Err}
use Rattle.c_tokens.specs.declared.token.Token.{Token}
use Rattle.c_tokens.specs.declared.token.TokenKind.{TokenKind}
use Rattle.c_tokens.specs.declared.token.Tokens.{Tokens}
use Rattle.c_tokens.specs.declared.token_end.TokenEnd.{TokenEnd}
use Rattle.c_tokens.specs.declared.token_end.TokenEnd.TheVariants as ends
use Rattle.c_tokens.specs.Bytes.{is_pair_at}
use Rattle.c_tokens.specs.Items.{opening_at, literal_kind}
use Rattle.c_tokens.specs.Spelling.{spells}
use Rattle.c_tokens.specs.White.{IsWhitePiece, IsWhite}
use Rattle.c_tokens.specs.Brackets.{unbalanced_at}
use Rattle.c_tokens.specs.Balance.{IsBalanced}

-- The spans are in order, apart, not empty, and stand between the two offsets.
abbrev pub IsOrdered : ℕ → List Token → ℕ → Type 0
IsOrdered from [] to = from ≤ to
IsOrdered from (t ∷ ts) to = (from ≤ t.span.from) × (t.span.from < t.span.to) × IsOrdered t.span.to ts to

-- a literal begins at the offset, and no bytes from there on spell one of its kind
pub record IsOpenLiteral (text : List ℕ) (from : ℕ) : Type 0 where
  pub quote : ℕ
  pub opens : opening_at text from ≡ Some quote
  pub unclosed : (later : ℕ) → later ≤ length text → spells (literal_kind (slice_index text quote)) (slice_range text from later) ≡ false

-- `/*` stands at the offset, and `*/` nowhere behind it
pub record IsOpenComment (text : List ℕ) (from : ℕ) : Type 0 where
  pub opens : is_pair_at text from 47 42 ≡ true
  pub unclosed : (k : ℕ) → from + 2 ≤ k → is_pair_at text k 42 47 ≡ false

-- `@`, the grave accent, a backslash, and the control bytes but white space: these begin no token
abbrev pub is_bad : ℕ → Bool
is_bad b = nat_le b 8 || (nat_le 14 b && nat_le b 31) || (b == 64) || (b == 92) || (b == 96) || (b == 127)

-- such a byte stands at the offset, and no bytes from there on spell a token of any kind
pub record IsBadByte (text : List ℕ) (at : ℕ) : Type 0 where
  pub listed : is_bad (slice_index text at) ≡ true
  pub no_token : (kind : TokenKind) (later : ℕ) → spells kind (slice_range text at later) ≡ false

-- The bytes between the offsets are a token: they spell one of its kind, and no more bytes from there on spell one of
-- any kind (C11 6.4, paragraph 4). No token begins where white space does, and none where a comment or a literal does
-- that nothing closes: there `/` is no punctuator, and a prefix no name.
pub record IsToken (text : List ℕ) (kind : TokenKind) (from to : ℕ) : Type 0 where
  pub inside : to ≤ length text
  pub spelt : spells kind (slice_range text from to) ≡ true
  pub longest : (other : TokenKind) (later : ℕ) → to < later → later ≤ length text
      → spells other (slice_range text from later) ≡ false
  pub no_white : (end : ℕ) → IsWhitePiece text from end → ⊥
  pub no_comment : IsOpenComment text from → ⊥
  pub no_literal : IsOpenLiteral text from → ⊥

-- Between the offsets stand these tokens, and before, between and behind them only white space.
abbrev pub IsCut : List ℕ → ℕ → List Token → ℕ → Type 0
IsCut text from [] to = IsWhite text from to
IsCut text from (t ∷ ts) to =
    IsWhite text from t.span.from × IsToken text t.kind t.span.from t.span.to × IsCut text t.span.to ts to

-- The text up to the offset is cut into tokens and white space. The offset lies inside the text, and no white space
-- begins there.
pub record IsReadUpTo (text : List ℕ) (to : ℕ) : Type 0 where
  pub list : List Token
  pub cut : IsCut text 0 list to
  pub inside : to < length text
  pub no_white : (end : ℕ) → IsWhitePiece text to end → ⊥

-- The whole text is cut, and its brackets don't match: the first that is unbalanced stands at the offset, inside the
-- text.
pub record IsUnbalanced (text : List ℕ) (offset : ℕ) : Type 0 where
  pub list : List Token
  pub cut : IsCut text 0 list (length text)
  pub first : unbalanced_at text [] list ≡ Some offset
  pub inside : offset < length text
  pub unbalanced : IsBalanced text list → ⊥

-- What an answer says of the text. A fault is the first from the left, since all before it is cut.
abbrev pub Explains : List ℕ → Result Tokens TokenEnd → Type 0
Explains text (Ok t) = IsCut text 0 t.list (length text) × IsBalanced text t.list
Explains text (Err (ends.OpenString o)) = IsReadUpTo text o × IsOpenLiteral text o
Explains text (Err (ends.OpenComment o)) = IsReadUpTo text o × IsOpenComment text o
Explains text (Err (ends.BadByte o)) = IsReadUpTo text o × IsBadByte text o
Explains text (Err (ends.Unbalanced o)) = IsUnbalanced text o
Explains text (Err ends.Memory) = Unit {0}

-- The same before brackets are looked at.
abbrev pub ExplainsScan : List ℕ → Result (List Token) TokenEnd → Type 0
ExplainsScan text (Ok ts) = IsCut text 0 ts (length text) × IsOrdered 0 ts (length text)
ExplainsScan text (Err (ends.OpenString o)) = IsReadUpTo text o × IsOpenLiteral text o
ExplainsScan text (Err (ends.OpenComment o)) = IsReadUpTo text o × IsOpenComment text o
ExplainsScan text (Err (ends.BadByte o)) = IsReadUpTo text o × IsBadByte text o
ExplainsScan text (Err (ends.Unbalanced o)) = ⊥
ExplainsScan text (Err ends.Memory) = Unit {0}

-- All answers that explain the text are one, want of memory aside.
pub record HasOneAnswer (text : List ℕ) : Type 0 where
  pub same : (one other : Result Tokens TokenEnd) → Explains text one → Explains text other
      → (one ≡ Err ends.Memory → ⊥) → (other ≡ Err ends.Memory → ⊥) → one ≡ other
