-- Where a token of one kind stands, no bytes that are as many or more spell one of another kind.
use Rattle.std.proofs.Common.{◌≡◌, ℕ, ◌+◌, ◌-◌, ◌<◌, ◌≤◌, true, false, List, [], ◌∷◌, drop, length, get_or, refl, arith, sym, Some, None, length-take}
use Rattle.std.proofs.lemmas.Bool.{both_ways, false_from_ne_true}
use Rattle.std.specs.Prelude.{slice_range}
use Rattle.c_tokens.specs.declared.token.TokenKind.{TokenKind}
use Rattle.c_tokens.specs.declared.token.TokenKind.TheVariants.{Name, Number, Char, Text, Punct}
use Rattle.c_tokens.specs.Bytes.{begins_name, is_digit, is_quote}
use Rattle.c_tokens.specs.Puncts.{ones, one_of}
use Rattle.c_tokens.specs.Items.{begins_number, opening_at, literal_kind}
use Rattle.c_tokens.specs.Spelling.{spells}
use Rattle.c_tokens.proofs.ByteLemmas.{number_begins_no_other}
use Rattle.c_tokens.proofs.BeginLemmas.{name_there, no_quote_there, number_there, begins_with_digit_or_dot, OpensWith, literal_there, no_opening, punctuator_there}

-- no bytes from the first offset to the second, or to a later one, spell a token of another kind
abbrev pub IsAlone : List ℕ → TokenKind → ℕ → ℕ → Type 0
IsAlone text kind from to =
    (other : TokenKind) (later : ℕ) → to ≤ later → spells other (slice_range text from later) ≡ true → other ≡ kind

no_literal : (text : List ℕ) (i k : ℕ) → opening_at text i ≡ None → OpensWith text i k → ⊥
no_literal text i k o w = let opens = w.opens in cc

number_no_name : (text : List ℕ) (i : ℕ) → begins_number text i ≡ true → begins_name (get_or text i 0) ≡ false
number_no_name text i h = (number_begins_no_other (get_or text i 0) (begins_with_digit_or_dot text i h)).0

number_no_literal : (text : List ℕ) (i : ℕ) → begins_number text i ≡ true → opening_at text i ≡ None
number_no_literal text i h =
    no_opening text i (number_begins_no_other (get_or text i 0) (begins_with_digit_or_dot text i h)).1

pub alone_name : (text : List ℕ) (i to : ℕ) → i < to → opening_at text i ≡ None
    → begins_name (get_or text i 0) ≡ true → IsAlone text Name i to
alone_name text i to lt o b other later le s = by_kind other s
  where
    some : 0 < later - i
    some = omega arith

    by_kind : (other : TokenKind) → spells other (slice_range text i later) ≡ true → other ≡ Name
    by_kind Name s = refl
    by_kind Number s =
        absurd (both_ways (begins_name (get_or text i 0))
        (number_no_name text i (number_there text i (later - i) some s)) b)
    by_kind Char s = absurd (no_literal text i 39 o (literal_there text i (later - i) 39 refl s))
    by_kind Text s = absurd (no_literal text i 34 o (literal_there text i (later - i) 34 refl s))
    by_kind Punct s =
        let p = punctuator_there text i (later - i) some s in
        absurd (both_ways (begins_name (get_or text i 0)) p.no_name b)

-- a number that begins with `.` is two bytes at least
pub alone_number : (text : List ℕ) (i to : ℕ) → i < to → (is_digit (get_or text i 0) ≡ false → i + 1 < to)
    → begins_number text i ≡ true → IsAlone text Number i to
alone_number text i to lt two b other later le s = by_kind other s
  where
    some : 0 < later - i
    some = omega arith

    by_kind : (other : TokenKind) → spells other (slice_range text i later) ≡ true → other ≡ Number
    by_kind Name s =
        absurd (both_ways (begins_name (get_or text i 0)) (number_no_name text i b)
        (name_there text i (later - i) some s))
    by_kind Number s = refl
    by_kind Char s =
        absurd (no_literal text i 39 (number_no_literal text i b) (literal_there text i (later - i) 39 refl s))
    by_kind Text s =
        absurd (no_literal text i 34 (number_no_literal text i b) (literal_there text i (later - i) 34 refl s))
    by_kind Punct s =
        let p = punctuator_there text i (later - i) some s in
        let long = two p.no_digit in
        let no_dot = p.no_number (omega arith) in
        let no_digit = p.no_digit in
        let gone : begins_number text i ≡ false = rw (no_digit, no_dot) refl in
        absurd (both_ways (begins_number text i) gone b)

pub alone_punctuator : (text : List ℕ) (i to : ℕ) → i < to → opening_at text i ≡ None
    → begins_name (get_or text i 0) ≡ false → begins_number text i ≡ false → IsAlone text Punct i to
alone_punctuator text i to lt o n d other later le s = by_kind other s
  where
    some : 0 < later - i
    some = omega arith

    by_kind : (other : TokenKind) → spells other (slice_range text i later) ≡ true → other ≡ Punct
    by_kind Name s = absurd (both_ways (begins_name (get_or text i 0)) n (name_there text i (later - i) some s))
    by_kind Number s = absurd (both_ways (begins_number text i) d (number_there text i (later - i) some s))
    by_kind Char s = absurd (no_literal text i 39 o (literal_there text i (later - i) 39 refl s))
    by_kind Text s = absurd (no_literal text i 34 o (literal_there text i (later - i) 34 refl s))
    by_kind Punct s = refl

-- a literal reaches past its quote, and there is one place where its quote can be
pub alone_literal : (text : List ℕ) (i q to : ℕ) → i ≤ q → q < to → opening_at text i ≡ Some q
    → is_quote (get_or text q 0) ≡ true → IsAlone text (literal_kind (get_or text q 0)) i to
alone_literal text i q to le lt o e other later further s = by_kind other s
  where
    some : 0 < later - i
    some = omega arith

    kind : (k : ℕ) → OpensWith text i k → literal_kind k ≡ literal_kind (get_or text q 0)
    kind k w =
        let opens = w.opens in
        let same : w.quote ≡ q = cc in
        let there = w.there in
        let is : k ≡ get_or text q 0 = rw same at (sym there) in
        rw is refl

    opened : opening_at text i ≡ None → ⊥
    opened n = cc

    by_kind : (other : TokenKind) → spells other (slice_range text i later) ≡ true
        → other ≡ literal_kind (get_or text q 0)
    by_kind Name s =
        let quote = no_quote_there text i (later - i) (q - i) (omega arith) s in
        let there : i + (q - i) ≡ q = omega arith in
        absurd (both_ways (is_quote (get_or text q 0)) (rw there at quote) e)
    by_kind Number s = absurd (opened (number_no_literal text i (number_there text i (later - i) some s)))
    by_kind Char s = kind 39 (literal_there text i (later - i) 39 refl s)
    by_kind Text s = kind 34 (literal_there text i (later - i) 34 refl s)
    by_kind Punct s = let p = punctuator_there text i (later - i) some s in absurd (opened p.no_literal)

-- a token has bytes, which stand in the text
pub not_empty : (kind : TokenKind) (bs : List ℕ) → spells kind bs ≡ true → 0 < length bs
not_empty kind [] s = absurd (nothing kind s)
  where
    nothing : (kind : TokenKind) → spells kind [] ≡ true → ⊥
    nothing Name s = cc
    nothing Number s = cc
    nothing Char s = cc
    nothing Text s = cc
    nothing Punct s = cc
not_empty kind (b ∷ bs) s = omega arith

-- nothing is spelt where no class of tokens begins
pub no_token : (text : List ℕ) (i : ℕ) → opening_at text i ≡ None → begins_name (get_or text i 0) ≡ false
    → begins_number text i ≡ false → one_of ones (get_or text i 0 ∷ []) ≡ false
    → (kind : TokenKind) (later : ℕ) → spells kind (slice_range text i later) ≡ false
no_token text i o n d p kind later =
    false_from_ne_true (spells kind (slice_range text i later)) (λ s. by_kind kind s (size kind s))
  where
    size : (kind : TokenKind) → spells kind (slice_range text i later) ≡ true → 0 < later - i
    size kind s =
        let long = not_empty kind (slice_range text i later) s in
        let few = length-take (later - i) (drop i text) in
        omega (arith, long, few)

    by_kind : (kind : TokenKind) → spells kind (slice_range text i later) ≡ true → 0 < later - i → ⊥
    by_kind Name s some = both_ways (begins_name (get_or text i 0)) n (name_there text i (later - i) some s)
    by_kind Number s some = both_ways (begins_number text i) d (number_there text i (later - i) some s)
    by_kind Char s some = no_literal text i 39 o (literal_there text i (later - i) 39 refl s)
    by_kind Text s some = no_literal text i 34 o (literal_there text i (later - i) 34 refl s)
    by_kind Punct s some =
        let t = punctuator_there text i (later - i) some s in
        both_ways (one_of ones (get_or text i 0 ∷ [])) p t.first
