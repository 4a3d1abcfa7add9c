-- The tokens of a text stand in order, apart, and inside it.
use Rattle.std.proofs.Common.{◌≡◌, ℕ, ◌+◌, ◌-◌, ◌<◌, ◌≤◌, Bool, true, false, List, [], ◌∷◌, length, refl, sym, subst, arith, nat_lt, Option, Some, None, Result, Ok, Err, if◌then◌else◌}
use Rattle.std.proofs.lemmas.Bool.{ltb-false}
use Rattle.c_tokens.specs.declared.token.Token.{Token}
use Rattle.c_tokens.specs.declared.token.TokenKind.{TokenKind}
use Rattle.c_tokens.specs.declared.token_end.TokenEnd.{TokenEnd}
use Rattle.c_tokens.specs.declared.token_end.TokenEnd.TheVariants as ends
use Rattle.c_tokens.specs.declared.item.Item.{Item}
use Rattle.c_tokens.specs.declared.item.Item.TheVariants as items
use Rattle.c_tokens.specs.Items.{item_at}
use Rattle.c_tokens.specs.Cut.{IsOrdered}
use Rattle.c_tokens.specs.Brackets.{unbalanced_at}
use Rattle.c_tokens.specs.Tokens.{token, with_first, tokens_from, balanced, checked, tokens_of}
use Rattle.asm_statement.proofs.CountLemmas.{led_to, led_step}
use Rattle.asm_statement.proofs.TokenEnds.{EndsBy, item_ends, piece_further}

-- the tokens of an answer are in order
abbrev AreOrdered : ℕ → Result (List Token) TokenEnd → ℕ → Type 0
AreOrdered a (Ok ts) n = IsOrdered a ts n
AreOrdered a (Err e) n = Unit {0}

-- no token that is still to come begins before the offset
abbrev IsBefore : ℕ → ℕ → ℕ → Type 0
IsBefore a until i = (j : ℕ) → i ≤ j → until ≤ j → a ≤ j

first_ordered : (a n i e : ℕ) (k : TokenKind) (r : Result (List Token) TokenEnd) → a ≤ i → i < e
    → AreOrdered e r n → AreOrdered a (with_first (token k i e) r) n
first_ordered a n i e k (Ok ts) low further rest = (low, further, rest)
first_ordered a n i e k (Err x) low further rest = tt

module _ (text : List ℕ) where
  led_ordered : (i : ℕ) (bs : List ℕ) (v : Item) → i < length text → item_at text i ≡ v
      → ((a until : ℕ) → a ≤ length text → IsBefore a until (i + 1) → AreOrdered a (tokens_from text until
      (i + 1) bs) (length text))
      → (a : ℕ) → a ≤ length text → a ≤ i → AreOrdered a (led_to text i bs v) (length text)
  led_ordered i bs (items.White e) lt is rest a le low = rest a e le (λ j next _. omega arith)
  led_ordered i bs (items.Piece k e) lt is rest a le low =
      let fits : EndsBy (length text) (items.Piece k e) = subst (EndsBy (length text)) is (item_ends text i lt) in
      first_ordered a (length text) i e k (tokens_from text e (i + 1) bs) low (piece_further text i e k lt is)
      (rest e e fits (λ j _ behind. behind))
  led_ordered i bs items.OpenString lt is rest a le low = tt
  led_ordered i bs items.OpenComment lt is rest a le low = tt
  led_ordered i bs items.BadByte lt is rest a le low = tt

  ordered_if : (i until : ℕ) (bs : List ℕ) (s : Bool) → nat_lt i until ≡ s → i < length text
      → ((a u : ℕ) → a ≤ length text → IsBefore a u (i + 1) → AreOrdered a (tokens_from text u (i + 1) bs)
      (length text))
      → (a : ℕ) → a ≤ length text → IsBefore a until i
      → AreOrdered a (if s then tokens_from text until (i + 1) bs else led_to text i bs (item_at text i))
      (length text)
  ordered_if i until bs true test lt rest a le before = rest a until le (λ j next behind. before j
      (omega arith) behind)
  ordered_if i until bs false test lt rest a le before =
      let behind : until ≤ i = ltb-false i until test in
      led_ordered i bs (item_at text i) lt refl rest a le (before i (omega arith) behind)

  ordered_from : (bs : List ℕ) (i until a : ℕ) → i + length bs ≡ length text → a ≤ length text → IsBefore a until i
      → AreOrdered a (tokens_from text until i bs) (length text)
  unfolding tokens_from
  ordered_from [] i until a size le before = le
  ordered_from (b ∷ bs) i until a size le before =
      subst (λ r. AreOrdered a r (length text)) (sym (led_step text i until b bs))
      (ordered_if i until bs (nat_lt i until) refl (omega arith)
      (λ c u low h. ordered_from bs (i + 1) u c (omega arith) low h) a le before)

  balanced_ordered : (us ts : List Token) (o : Option ℕ) → balanced us o ≡ Ok ts → IsOrdered 0 us (length text)
      → IsOrdered 0 ts (length text)
  balanced_ordered us ts None is h = let same : us ≡ ts = cc in subst (λ (xs : List Token). IsOrdered 0 xs
      (length text)) same h
  balanced_ordered us ts (Some o) is h = absurd (let no : Err (ends.Unbalanced o) ≡ Ok ts = is in cc)

  checked_ordered : (ts : List Token) (r : Result (List Token) TokenEnd) → checked text r ≡ Ok ts
      → AreOrdered 0 r (length text) → IsOrdered 0 ts (length text)
  checked_ordered ts (Ok us) is h = balanced_ordered us ts (unbalanced_at text [] us) is h
  checked_ordered ts (Err e) is h = absurd (let no : Err e ≡ Ok ts = is in cc)

  pub tokens_ordered : (ts : List Token) → tokens_of text ≡ Ok ts → IsOrdered 0 ts (length text)
  unfolding tokens_of
  tokens_ordered ts is =
      checked_ordered ts (tokens_from text 0 0 text) is
      (ordered_from text 0 0 0 (omega arith) (omega arith) (λ j _ _. omega arith))
