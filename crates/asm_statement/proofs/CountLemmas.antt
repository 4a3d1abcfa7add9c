-- A text has no more tokens than bytes.
use Rattle.std.proofs.Common.{◌≡◌, ℕ, ◌+◌, ◌≤◌, Bool, true, false, List, [], ◌∷◌, length, refl, sym, subst, arith, nat_lt, Option, Some, None, Result, Ok, Err}
use Rattle.std.specs.Prelude.{if◌then◌else◌}
use Rattle.c_tokens.specs.declared.token.Token.{Token}
use Rattle.c_tokens.specs.declared.token_end.TokenEnd.{TokenEnd}
use Rattle.c_tokens.specs.declared.item.Item.{Item}
use Rattle.c_tokens.specs.declared.item.Item.TheVariants as items
use Rattle.c_tokens.specs.declared.token_end.TokenEnd.TheVariants as ends
use Rattle.c_tokens.specs.Items.{item_at}
use Rattle.c_tokens.specs.Brackets.{unbalanced_at}
use Rattle.c_tokens.specs.Tokens.{token, with_first, tokens_from, balanced, checked, tokens_of}

-- the tokens of an answer are at most as many
abbrev IsAtMost : ℕ → Result (List Token) TokenEnd → Type 0
IsAtMost n (Ok ts) = length ts ≤ n
IsAtMost n (Err e) = Unit {0}

first_more : (n m : ℕ) (t : Token) (r : Result (List Token) TokenEnd) → n + 1 ≤ m → IsAtMost n r → IsAtMost m (with_first t r)
first_more n m t (Ok ts) more le = omega (arith, le)
first_more n m t (Err e) more le = tt

wider : (n m : ℕ) (r : Result (List Token) TokenEnd) → n ≤ m → IsAtMost n r → IsAtMost m r
wider n m (Ok ts) more le = omega (arith, le)
wider n m (Err e) more le = tt

-- what the item at an offset leads to
abbrev pub led_to : List ℕ → ℕ → List ℕ → Item → Result (List Token) TokenEnd
led_to text i bs (items.White e) = tokens_from text e (i + 1) bs
led_to text i bs (items.Piece kind e) = with_first (token kind i e) (tokens_from text e (i + 1) bs)
led_to text i bs items.OpenString = Err (ends.OpenString i)
led_to text i bs items.OpenComment = Err (ends.OpenComment i)
led_to text i bs items.BadByte = Err (ends.BadByte i)

pub led_step : (text : List ℕ) (i until b : ℕ) (bs : List ℕ) → tokens_from text until i (b ∷ bs) ≡ (if nat_lt i until then tokens_from text until (i + 1) bs else led_to text i bs (item_at text i))
unfolding tokens_from
led_step text i until b bs = elim (item_at text i) as (λ v. (if nat_lt i until then tokens_from text until (i + 1) bs else elim v [
  | items.White e ↦ tokens_from text e (i + 1) bs
  | items.Piece kind e ↦ with_first (token kind i e) (tokens_from text e (i + 1) bs)
  | items.OpenString ↦ Err (ends.OpenString i)
  | items.OpenComment ↦ Err (ends.OpenComment i)
  | items.BadByte ↦ Err (ends.BadByte i)
]) ≡ (if nat_lt i until then tokens_from text until (i + 1) bs else led_to text i bs v)) [ items.White e ↦ refl | items.Piece kind e ↦ refl | items.OpenString ↦ refl | items.OpenComment ↦ refl | items.BadByte ↦ refl ]

count_led : (text : List ℕ) (i b : ℕ) (bs : List ℕ) (v : Item) → ((until : ℕ) → IsAtMost (length bs) (tokens_from text until (i + 1) bs)) → IsAtMost (length (b ∷ bs)) (led_to text i bs v)
count_led text i b bs (items.White e) rest = wider (length bs) (length (b ∷ bs)) (tokens_from text e (i + 1) bs) (omega arith) (rest e)
count_led text i b bs (items.Piece kind e) rest = first_more (length bs) (length (b ∷ bs)) (token kind i e) (tokens_from text e (i + 1) bs) (omega arith) (rest e)
count_led text i b bs items.OpenString rest = tt
count_led text i b bs items.OpenComment rest = tt
count_led text i b bs items.BadByte rest = tt

count_if : (text : List ℕ) (i until b : ℕ) (bs : List ℕ) (s : Bool) → ((until : ℕ) → IsAtMost (length bs) (tokens_from text until (i + 1) bs))
    → IsAtMost (length (b ∷ bs)) (if s then tokens_from text until (i + 1) bs else led_to text i bs (item_at text i))
count_if text i until b bs true rest = wider (length bs) (length (b ∷ bs)) (tokens_from text until (i + 1) bs) (omega arith) (rest until)
count_if text i until b bs false rest = count_led text i b bs (item_at text i) rest

count_from : (text : List ℕ) (bs : List ℕ) (until i : ℕ) → IsAtMost (length bs) (tokens_from text until i bs)
unfolding tokens_from
count_from text [] until i = omega arith
count_from text (b ∷ bs) until i =
    subst (IsAtMost (length (b ∷ bs))) (sym (led_step text i until b bs)) (count_if text i until b bs (nat_lt i until) (λ u. count_from text bs u (i + 1)))

checked_count : (text : List ℕ) (n : ℕ) (ts us : List Token) (o : Option ℕ) → balanced us o ≡ Ok ts → length us ≤ n → length ts ≤ n
checked_count text n ts us None is le = let same : us ≡ ts = cc in rw (← same) le
checked_count text n ts us (Some o) is le = absurd (let no : Err (ends.Unbalanced o) ≡ Ok ts = is in cc)

count_checked : (text : List ℕ) (n : ℕ) (ts : List Token) (r : Result (List Token) TokenEnd) → checked text r ≡ Ok ts → IsAtMost n r → length ts ≤ n
count_checked text n ts (Ok us) is le = checked_count text n ts us (unbalanced_at text [] us) is le
count_checked text n ts (Err e) is le = absurd (let no : Err e ≡ Ok ts = is in cc)

pub count_tokens : (text : List ℕ) (ts : List Token) → tokens_of text ≡ Ok ts → length ts ≤ length text
unfolding tokens_of
count_tokens text ts is = count_checked text (length text) ts (tokens_from text 0 0 text) is (count_from text text 0 0)

pub ruleset count_rules = (count_tokens)
