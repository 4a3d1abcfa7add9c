-- Bits of words, and of words in a row.
use Rattle.std.proofs.Common.{◌≡◌, ◌⊎◌, inl, inr, ℕ, ◌+◌, ◌*◌, ◌/◌, ◌%◌, ◌-◌, ◌^◌, ◌<◌, ◌≤◌, ◌||◌, ◌&&◌, ◌==◌, min, max, nat_lt, List, length, Bool, true, false, not, slice_index, slice_set, bit_and, bit_or, if◌then◌else◌, refl, sym, ap, subst, ◌∙◌, arith}
use Rattle.std.specs.Int.{bit_not, w64}
use Rattle.std.proofs.lemmas.Bool.{cases_eq, cases_lt, cases_order, eq-eqb, ne_eqb, lt-ltb, le-ltb, cond-true, cond-false}
use Rattle.std.proofs.lemmas.List.{get_or-set_same, get_or-set_other, get_or_past}
use Rattle.std.proofs.lemmas.Nat.Bits.{bit_at_or, bit_at_and, bit_at_not, bit_at-lt, bit_at-zero, bit_at_ones, bit_at_ones_above, bit_at_set_same, bit_at_set_other, bit_at_clear_same, bit_at_clear_other}
use Rattle.std.specs.List.{between}
use Rattle.std.proofs.lemmas.List.Edits.{get_or-between}
use Rattle.std.proofs.lemmas.Nat.{pow_below}
use Rattle.std.proofs.Math.Bool.{or-false}
use Rattle.dataflow.specs.Bits.{facts_in}
use Rattle.blk_deps.specs.Ground.{has_bit}

one_of_two : (a : ℕ) → a < 2 → (a ≡ 0) ⊎ (a ≡ 1)
one_of_two a lt = elim (cases_eq a 1) [ inl one ↦ inr one | inr other ↦ inl (omega arith) ]

is_one_of_max : (a b : ℕ) → a < 2 → b < 2 → (max a b == 1) ≡ ((a == 1) || (b == 1))
is_one_of_max a b la lb = elim (one_of_two a la) [
  | inl none ↦ elim (one_of_two b lb) [ inl too ↦ rw (none, too) refl | inr one ↦ rw (none, one) refl ]
  | inr one ↦ elim (one_of_two b lb) [ inl none ↦ rw (one, none) refl | inr too ↦ rw (one, too) refl ]
]

is_one_of_min : (a b : ℕ) → a < 2 → b < 2 → (min a b == 1) ≡ ((a == 1) && (b == 1))
is_one_of_min a b la lb = elim (one_of_two a la) [
  | inl none ↦ elim (one_of_two b lb) [ inl too ↦ rw (none, too) refl | inr one ↦ rw (none, one) refl ]
  | inr one ↦ elim (one_of_two b lb) [ inl none ↦ rw (one, none) refl | inr too ↦ rw (one, too) refl ]
]

is_one_of_rest : (a : ℕ) → a < 2 → (1 - a == 1) ≡ not (a == 1)
is_one_of_rest a la = elim (one_of_two a la) [ inl none ↦ rw none refl | inr one ↦ rw one refl ]

pub has_or : (a b i : ℕ) → has_bit (bit_or a b) i ≡ (has_bit a i || has_bit b i)
has_or a b i = ap (λ n. n == 1) (bit_at_or a b i) ∙ is_one_of_max _ _ (bit_at-lt a i) (bit_at-lt b i)

pub has_and : (a b i : ℕ) → has_bit (bit_and a b) i ≡ (has_bit a i && has_bit b i)
has_and a b i = ap (λ n. n == 1) (bit_at_and a b i) ∙ is_one_of_min _ _ (bit_at-lt a i) (bit_at-lt b i)

pub has_not : (n i : ℕ) → n < 2 ^ 64 → i < 64 → has_bit (bit_not w64 n) i ≡ not (has_bit n i)
has_not n i fits lt = ap (λ n. n == 1) (bit_at_not w64 n i fits lt) ∙ is_one_of_rest _ (bit_at-lt n i)

-- a word is written
pub facts_set : (words : List ℕ) (i word n : ℕ) → i < length words
    → facts_in (slice_set words i word) n ≡ (if n / 64 == i then has_bit word (n % 64) else facts_in words n)
facts_set words i word n within = elim (cases_eq (n / 64) i) [
  | inl same ↦ rw (eq-eqb (n / 64) i same) (ap (λ w. has_bit w (n % 64))
      (ap (slice_index (slice_set words i word)) same ∙ get_or-set_same words i word 0 within))
  | inr differ ↦ rw (ne_eqb (n / 64) i differ) (ap (λ w. has_bit w (n % 64)) (get_or-set_other words i (n / 64) word 0 differ))
]

pub facts_past : (words : List ℕ) (n : ℕ) → length words ≤ n / 64 → facts_in words n ≡ false
facts_past words n past = ap (λ w. has_bit w (n % 64)) (get_or_past words (n / 64) 0 past) ∙ ap (λ b. b == 1) (bit_at-zero (n % 64))

-- the words below i are as wanted, and the next one is written as wanted
pub facts_next : (both : ℕ → Bool) (old new : List ℕ) (i word : ℕ) → i < length new
    → ((n : ℕ) → facts_in new n ≡ (if nat_lt (n / 64) i then both n else facts_in old n))
    → ((n : ℕ) → n / 64 ≡ i → has_bit word (n % 64) ≡ both n)
    → (n : ℕ) → facts_in (slice_set new i word) n ≡ (if nat_lt (n / 64) (i + 1) then both n else facts_in old n)
facts_next both old new i word within known written n = facts_set new i word n within ∙ elim (cases_order (n / 64) i) [
  | inl same ↦ rw (eq-eqb (n / 64) i same, lt-ltb (n / 64) (i + 1) (omega arith)) (written n same)
  | inr (inl lt) ↦ rw (ne_eqb (n / 64) i (λ e. omega arith), lt-ltb (n / 64) (i + 1) (omega arith))
      (known n ∙ cond-true (nat_lt (n / 64) i) (both n) (facts_in old n) (lt-ltb (n / 64) i lt))
  | inr (inr gt) ↦ rw (ne_eqb (n / 64) i (λ e. omega arith), le-ltb (n / 64) (i + 1) (omega arith))
      (known n ∙ cond-false (nat_lt (n / 64) i) (both n) (facts_in old n) (le-ltb (n / 64) i (omega arith)))
]

-- the word at i is still the old one
pub word_still : (both : ℕ → Bool) (old new : List ℕ) (i n : ℕ)
    → ((n : ℕ) → facts_in new n ≡ (if nat_lt (n / 64) i then both n else facts_in old n))
    → i ≤ n / 64 → facts_in new n ≡ facts_in old n
word_still both old new i n known le = known n ∙ cond-false (nat_lt (n / 64) i) (both n) (facts_in old n) (le-ltb (n / 64) i le)

-- bit b of word w
pub word_of : (w b : ℕ) → b < 64 → (64 * w + b) / 64 ≡ w
word_of w b lt = omega arith

pub bit_of : (w b : ℕ) → b < 64 → (64 * w + b) % 64 ≡ b
bit_of w b lt = omega arith

pub facts_bit : (words : List ℕ) (w b : ℕ) → b < 64 → facts_in words (64 * w + b) ≡ has_bit (slice_index words w) b
facts_bit words w b lt = rw (word_of w b lt, bit_of w b lt) refl

pub has_below : (n b : ℕ) → n < 64 → has_bit (1 * 2 ^ n % 18446744073709551616 - 1) b ≡ nat_lt b n
has_below n b lt =
    let small = pow_below n 64 lt in
    let e : 1 * 2 ^ n % 18446744073709551616 ≡ 2 ^ n = omega (arith, small) in
    rw e (elim (cases_lt b n) [
      | inl below ↦ rw (bit_at_ones n b below, lt-ltb b n below) refl
      | inr above ↦ rw (bit_at_ones_above n b above, le-ltb b n above) refl
    ])

pub has_all : (b : ℕ) → b < 64 → has_bit 18446744073709551615 b ≡ true
has_all b lt = ap (λ n. n == 1) (bit_at_ones 64 b lt)

pub has_none : (b : ℕ) → has_bit 0 b ≡ false
has_none b = ap (λ n. n == 1) (bit_at-zero b)

pub has_set : (word bit b : ℕ) → bit < 64 → b < 64
    → has_bit (bit_or word (1 * 2 ^ bit % 18446744073709551616)) b ≡ (if b == bit then true else has_bit word b)
has_set word bit b within lt = elim (cases_eq b bit) [
  | inl same ↦ rw (eq-eqb b bit same) (subst (λ k. has_bit (bit_or word (1 * 2 ^ bit % 18446744073709551616)) k ≡ true) (sym same)
      (ap (λ n. n == 1) (bit_at_set_same w64 word bit within)))
  | inr differ ↦ rw (ne_eqb b bit differ) (ap (λ n. n == 1) (bit_at_set_other w64 word bit within b differ))
]

pub has_cleared : (word bit b : ℕ) → bit < 64 → b < 64
    → has_bit (bit_and word (18446744073709551615 - 1 * 2 ^ bit % 18446744073709551616)) b ≡ (if b == bit then false else has_bit word b)
has_cleared word bit b within lt = elim (cases_eq b bit) [
  | inl same ↦ rw (eq-eqb b bit same) (subst (λ k. has_bit (bit_and word (18446744073709551615 - 1 * 2 ^ bit % 18446744073709551616)) k ≡ false)
      (sym same) (ap (λ n. n == 1) (bit_at_clear_same w64 word bit within)))
  | inr differ ↦ rw (ne_eqb b bit differ) (ap (λ n. n == 1) (bit_at_clear_other w64 word bit within b lt differ))
]

-- bit n is the one of its word
pub bit_splits : (n bit : ℕ) → (n == bit) ≡ ((n / 64 == bit / 64) && (n % 64 == bit % 64))
bit_splits n bit = elim (cases_eq (n / 64) (bit / 64)) [
  | inl same ↦ elim (cases_eq (n % 64) (bit % 64)) [
    | inl too ↦ rw (eq-eqb n bit (omega arith), eq-eqb (n / 64) (bit / 64) same, eq-eqb (n % 64) (bit % 64) too) refl
    | inr other ↦ rw (ne_eqb n bit (λ e. other (ap (λ n. n % 64) e)), ne_eqb (n % 64) (bit % 64) other, eq-eqb (n / 64) (bit / 64) same) refl
  ]
  | inr other ↦ rw (ne_eqb n bit (λ e. other (ap (λ n. n / 64) e)), ne_eqb (n / 64) (bit / 64) other) refl
]

pub facts_set_bit : (words : List ℕ) (bit word n : ℕ) (on : Bool) → bit / 64 < length words
    → ((b : ℕ) → b < 64 → has_bit word b ≡ (if b == bit % 64 then on else has_bit (slice_index words (bit / 64)) b))
    → facts_in (slice_set words (bit / 64) word) n ≡ (if n == bit then on else facts_in words n)
facts_set_bit words bit word n on within written = facts_set words (bit / 64) word n within ∙ elim (cases_eq (n / 64) (bit / 64)) [
  | inl same ↦ rw (bit_splits n bit, eq-eqb (n / 64) (bit / 64) same)
      (written (n % 64) (omega arith)
      ∙ ap (λ w. if n % 64 == bit % 64 then on else has_bit (slice_index words w) (n % 64)) (sym same))
  | inr other ↦ rw (bit_splits n bit, ne_eqb (n / 64) (bit / 64) other) refl
]

pub facts_join_word : (words : List ℕ) (at more n : ℕ) → at < length words
    → facts_in (slice_set words at (bit_or (slice_index words at) more)) n ≡ (facts_in words n || (n / 64 == at && has_bit more (n % 64)))
facts_join_word words at more n within = facts_set words at _ n within ∙ elim (cases_eq (n / 64) at) [
  | inl same ↦ rw (eq-eqb (n / 64) at same) (has_or _ more (n % 64) ∙ ap (λ w. has_bit (slice_index words w) (n % 64) || has_bit more (n % 64)) (sym same))
  | inr other ↦ rw (ne_eqb (n / 64) at other) (sym (or-false (facts_in words n)))
]

pub next_joined : (old new more : List ℕ) (i n : ℕ)
    → ((n : ℕ) → facts_in new n ≡ (if nat_lt (n / 64) i then facts_in old n || facts_in more n else facts_in old n))
    → n / 64 ≡ i → has_bit (bit_or (slice_index new i) (slice_index more i)) (n % 64) ≡ (facts_in old n || facts_in more n)
next_joined old new more i n known same =
    has_or _ _ (n % 64)
    ∙ ap (λ w. has_bit (slice_index new w) (n % 64) || has_bit (slice_index more w) (n % 64)) (sym same)
    ∙ ap (λ b. b || facts_in more n) (word_still (λ n. facts_in old n || facts_in more n) old new i n known (omega arith))

pub all_joined : (old new more : List ℕ) (i : ℕ) → length old ≤ i → length more ≡ length old
    → ((n : ℕ) → facts_in new n ≡ (if nat_lt (n / 64) i then facts_in old n || facts_in more n else facts_in old n))
    → (n : ℕ) → facts_in new n ≡ (facts_in old n || facts_in more n)
all_joined old new more i all fit known n = known n ∙ elim (cases_lt (n / 64) i) [
  | inl lt ↦ rw (lt-ltb (n / 64) i lt) refl
  | inr ge ↦ rw (le-ltb (n / 64) i ge) (sym (ap (λ b. facts_in old n || b) (facts_past more n (omega arith)) ∙ or-false (facts_in old n)))
]

-- some words of a row
pub facts_between : (row : List ℕ) (a k n : ℕ) → n / 64 < k → facts_in (between a (a + k) row) n ≡ facts_in row (64 * a + n)
facts_between row a k n lt =
    let word : (64 * a + n) / 64 ≡ a + n / 64 = omega arith in
    let bit : (64 * a + n) % 64 ≡ n % 64 = omega arith in
    rw (word, bit) (ap (λ w. has_bit w (n % 64)) (get_or-between row a (a + k) (n / 64) 0 (omega (arith, lt))))

pub all_cleared : (old new : List ℕ) (count : ℕ) → length old ≤ count → ((n : ℕ) → facts_in new n ≡ (if nat_lt (n / 64) count then false else facts_in old n))
    → (n : ℕ) → facts_in new n ≡ false
all_cleared old new count all known n = known n ∙ elim (cases_lt (n / 64) count) [
  | inl lt ↦ rw (lt-ltb (n / 64) count lt) refl
  | inr ge ↦ rw (le-ltb (n / 64) count ge) (facts_past old n (omega arith))
]
