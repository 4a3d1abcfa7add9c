-- Joining row to row, word by word.
use Rattle.std.proofs.Common.{◌≡◌, ◌≢◌, inl, inr, ℕ, ◌+◌, ◌/◌, ◌%◌, ◌-◌, ◌^◌, ◌<◌, ◌≤◌, ◌||◌, ◌==◌, max, List, length, Bool, true, false, not, slice_index, slice_set, bit_or, refl, sym, ap, subst, ◌∙◌, arith}
use Rattle.std.specs.Int.{bit_at}
use Rattle.std.proofs.lemmas.Bool.{cases_eq, cases_lt, eq-eqb, ne_eqb}
use Rattle.std.proofs.lemmas.List.{length-set, set-get_or, get_or-set_same, get_or-set_other, get_or_past}
use Rattle.std.proofs.lemmas.List.Sums.{sum_by-set}
use Rattle.std.proofs.lemmas.Nat.{le_or_l}
use Rattle.std.proofs.lemmas.Nat.Bits.{bit_at_or, bit_at-lt}
use Rattle.std.proofs.Math.Bool.{or-false, or-true}
use Rattle.dataflow.specs.Joining.{Joins, room, one_if}

-- word k is joined
abbrev pub Joined : (more old new : List ℕ) → ℕ → Type 0
Joined more old new k = slice_index new k ≡ bit_or (slice_index old k) (slice_index more k)

-- the words below i are joined
pub record JoinsBelow (i : ℕ) (more : List ℕ) (grew : Bool) (old new : List ℕ) : Type 0 where
  pub size : length new ≡ length old
  pub below : (k : ℕ) → k < i → Joined more old new k
  pub above : (k : ℕ) → i ≤ k → slice_index new k ≡ slice_index old k
  pub same : grew ≡ false → new ≡ old
  pub room : room new + one_if grew ≤ room old

one_more : (i : ℕ) (more : List ℕ) (grew : Bool) (old new : List ℕ) → JoinsBelow i more grew old new
    → slice_index new i ≡ bit_or (slice_index new i) (slice_index more i) → (k : ℕ) → k < i + 1 → Joined more old new k
one_more i more grew old new joins is k lt = elim (cases_eq k i) [
  | inl same ↦ subst (Joined more old new) (sym same)
      (is ∙ ap (λ w. bit_or w (slice_index more i)) (joins.above i (omega arith)))
  | inr differ ↦ joins.below k (omega arith)
]

-- the word holds all of it
pub word_stays : (i : ℕ) (more : List ℕ) (grew : Bool) (old new : List ℕ) → JoinsBelow i more grew old new
    → slice_index new i ≡ bit_or (slice_index new i) (slice_index more i) → JoinsBelow (i + 1) more grew old new
word_stays i more grew old new joins is = record {
  size = joins.size;
  below = one_more i more grew old new joins is;
  above = λ k le. joins.above k (omega arith);
  same = joins.same;
  room = joins.room;
}

room-set : (words : List ℕ) (i joined : ℕ) → i < length words → joined < 2 ^ 64 → slice_index words i < joined
    → room (slice_set words i joined) + 1 ≤ room words
room-set words i joined within fits more =
    let moved = sum_by-set (λ word. 2 ^ 64 - word) words i joined 0 within in
    omega (arith, moved)

-- the word becomes another
pub word_grows : (i : ℕ) (more : List ℕ) (grew : Bool) (old new : List ℕ) (joined : ℕ)
    → JoinsBelow i more grew old new
    → i < length new → joined ≡ bit_or (slice_index new i) (slice_index more i) → joined < 2 ^ 64
    → joined ≢ slice_index new i
    → JoinsBelow (i + 1) more true old (slice_set new i joined)
word_grows i more grew old new joined joins within is fits differs =
    let up : slice_index new i ≤ joined = subst (λ n. slice_index new i ≤ n) (sym is) (le_or_l _ _) in
    let less = room-set new i joined within fits (omega arith) in
    let of_old = ap (λ w. bit_or w (slice_index more i)) (joins.above i (omega arith)) in
    record {
      size = length-set new i joined ∙ joins.size;
      below = λ k lt. elim (cases_eq k i) [
        | inl same ↦ subst (Joined more old (slice_set new i joined)) (sym same)
            (get_or-set_same new i joined 0 within ∙ is ∙ of_old)
        | inr differ ↦ get_or-set_other new i k joined 0 differ ∙ joins.below k (omega arith)
      ];
      above = λ k le. get_or-set_other new i k joined 0 (λ e. omega arith) ∙ joins.above k (omega arith);
      same = λ e. cc;
      room = omega (arith, less, joins.room);
    }

pub word_joins : (i : ℕ) (more : List ℕ) (grew : Bool) (old new : List ℕ) (joined : ℕ)
    → JoinsBelow i more grew old new
    → i < length new → joined ≡ bit_or (slice_index new i) (slice_index more i) → joined < 2 ^ 64
    → JoinsBelow (i + 1) more (grew || not (joined == slice_index new i)) old (slice_set new i joined)
word_joins i more grew old new joined joins within is fits = elim (cases_eq joined (slice_index new i)) [
  | inl same ↦ rw (eq-eqb joined (slice_index new i) same, or-false grew, same, set-get_or new i 0)
      (word_stays i more grew old new joins (sym same ∙ is))
  | inr differ ↦ rw (ne_eqb joined (slice_index new i) differ, or-true grew)
      (word_grows i more grew old new joined joins within is fits differ)
]

is_one_of_max : (a b : ℕ) → a < 2 → b < 2 → (max a b == 1) ≡ ((a == 1) || (b == 1))
is_one_of_max a b la lb = elim (cases_eq a 1) [
  | inl one ↦ elim (cases_eq b 1) [
    | inl too ↦ rw (one, too) refl
    | inr other ↦ let none : b ≡ 0 = omega arith in rw (one, none) refl
  ]
  | inr other ↦ let none : a ≡ 0 = omega arith in elim (cases_eq b 1) [
    | inl one ↦ rw (none, one) refl
    | inr too ↦ let neither : b ≡ 0 = omega arith in rw (none, neither) refl
  ]
]

joined_words : (i : ℕ) (more : List ℕ) (grew : Bool) (old new : List ℕ) → JoinsBelow i more grew old new
    → length old ≤ i → length more ≡ length old → (k : ℕ) → Joined more old new k
joined_words i more grew old new joins all fit k = elim (cases_lt k i) [
  | inl lt ↦ joins.below k lt
  | inr ge ↦
      let past_new = get_or_past new k 0 (omega (arith, joins.size)) in
      let past_old = get_or_past old k 0 (omega arith) in
      let past_more = get_or_past more k 0 (omega arith) in
      rw (past_new, past_old, past_more) refl
]

pub all_joined : (i : ℕ) (more : List ℕ) (grew : Bool) (old new : List ℕ) → JoinsBelow i more grew old new
    → length old ≤ i → length more ≡ length old → Joins more grew old new
all_joined i more grew old new joins all fit = record {
  size = joins.size;
  each = λ n.
      let word = n / 64 in
      ap (λ w. bit_at w (n % 64) == 1) (joined_words i more grew old new joins all fit word)
      ∙ ap (λ b. b == 1) (bit_at_or (slice_index old word) (slice_index more word) (n % 64))
      ∙ is_one_of_max _ _ (bit_at-lt _ _) (bit_at-lt _ _);
  same = joins.same;
  room = joins.room;
}

pub none_joined : (more : List ℕ) (row : List ℕ) → JoinsBelow 0 more false row row
none_joined more row = record {
  size = refl;
  below = λ k lt. absurd (omega arith);
  above = λ k le. refl;
  same = λ e. refl;
  room = omega arith;
}
