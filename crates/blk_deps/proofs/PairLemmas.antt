-- Whether a value has a pair, asked of its words.
use Rattle.std.proofs.Common.{◌≡◌, ℕ, ◌+◌, ◌*◌, ◌^◌, ◌<◌, ◌==◌, ◌&&◌, nat_lt, List, length, slice_index, drop, bit_and, Bool, true, false, not, refl, sym, ap, subst, ◌∙◌, arith, length-drop}
use Rattle.std.specs.List.{list_any, range_with_len}
use Rattle.std.proofs.lemmas.Bool.{false≢true, and_parts, and_from, and_left, ltb-true, lt-ltb, le-ltb}
use Rattle.std.proofs.lemmas.List.{get_or-drop, get_or_default}
use Rattle.std.proofs.lemmas.List.Folds.{Any-from_list_any, list_any_at}
use Rattle.blk_deps.specs.Ground.{has_bit}
use Rattle.blk_deps.specs.Layout.{IsLayout, places_in, cell_words, value_words, shown_value}
use Rattle.blk_deps.specs.Fits.{some_pair}
use Rattle.blk_deps.specs.declared.layout.Layout.{Layout}
use Rattle.blk_deps.specs.declared.fact.Property.TheVariants.{Pair}
use Rattle.blk_deps.proofs.WordLemmas.{facts_bit}
use Rattle.blk_deps.proofs.AnyLemmas.{same_answers, nonzero_below, some_pair_at, paired_from, below_from, some_below}
use Rattle.blk_deps.proofs.PropertyLemmas.{has_no_bit, value_in_row}

module _ (l : Layout) (value : List ℕ) (is : IsLayout l) (fits : length value ≡ value_words l) where
  abbrev pairs : List ℕ
  pairs = drop (2 * cell_words l + 1) value

  abbrev has_first : ℕ → Bool
  has_first d = nat_lt d 64 && list_any (λ word. has_bit word d) pairs

  pair_bit : (d p : ℕ) → d < places_in l → p < places_in l → shown_value l value (Pair d p) ≡ has_bit (slice_index pairs p) d
  pair_bit d p first second =
      let word : 0 + 2 * cell_words l + 1 + p ≡ 2 * cell_words l + 1 + p = omega arith in
      rw (lt-ltb d (places_in l) first, lt-ltb p (places_in l) second)
      (facts_bit value (0 + 2 * cell_words l + 1 + p) d (omega (arith, first, is.operands))
      ∙ ap (λ w. has_bit (slice_index value w) d) word
      ∙ ap (λ w. has_bit w d) (sym (get_or-drop (2 * cell_words l + 1) value p 0)))

  no_pair : (d p : ℕ) → (nat_lt d (places_in l) && nat_lt p (places_in l)) ≡ false → shown_value l value (Pair d p) ≡ false
  no_pair d p gone = rw gone (has_no_bit l value (omega (arith, fits, value_in_row l)))

  count : length pairs ≡ places_in l
  count = length-drop (2 * cell_words l + 1) value ∙ omega (arith, fits)

  from_words : list_any has_first (range_with_len 0 (places_in l)) ≡ true → some_pair (λ d p. shown_value l value (Pair d p)) ≡ true
  from_words holds =
      let found = below_from has_first (places_in l) holds in
      let d = found.number in
      let parts = and_parts (nat_lt d 64) (list_any (λ word. has_bit word d) pairs) found.holds in
      let word = Any-from_list_any (λ word. has_bit word d) pairs parts.1 in
      let p = word.0 in
      let lt : p < places_in l = subst (λ n. p < n) count word.2 in
      let read : slice_index pairs p ≡ word.1 = get_or_default pairs p 0 word.1 word.2 ∙ word.3 in
      some_pair_at (λ d p. shown_value l value (Pair d p)) d p (omega (arith, found.within, is.operands)) (omega (arith, lt, is.operands))
      (pair_bit d p found.within lt ∙ ap (λ w. has_bit w d) read ∙ word.4)

  of_pair : (d p : ℕ) → shown_value l value (Pair d p) ≡ true → (t : Bool) → (nat_lt d (places_in l) && nat_lt p (places_in l)) ≡ t
      → list_any has_first (range_with_len 0 (places_in l)) ≡ true
  of_pair d p holds false gone = absurd (false≢true (sym (no_pair d p gone) ∙ holds))
  of_pair d p holds true there =
      let parts = and_parts _ _ there in
      let first = ltb-true d (places_in l) parts.0 in
      let second = ltb-true p (places_in l) parts.1 in
      let any = list_any_at (λ word. has_bit word d) pairs p 0 (subst (λ n. p < n) (sym count) second) (sym (pair_bit d p first second) ∙ holds) in
      some_below has_first (places_in l) d first (and_from _ _ (lt-ltb d 64 (omega (arith, first, is.operands))) any)

  to_words : some_pair (λ d p. shown_value l value (Pair d p)) ≡ true → list_any has_first (range_with_len 0 (places_in l)) ≡ true
  to_words holds =
      let found = paired_from (λ d p. shown_value l value (Pair d p)) holds in
      of_pair found.first found.second found.holds _ refl

  pub pairs_asked : (word mask : ℕ) → word < 2 ^ 64 → ((b : ℕ) → b < 64 → has_bit word b ≡ list_any (λ word. has_bit word b) pairs)
      → ((b : ℕ) → b < 64 → has_bit mask b ≡ nat_lt b (places_in l))
      → not (bit_and word mask == 0) ≡ some_pair (λ d p. shown_value l value (Pair d p))
  pairs_asked word mask small tells masks =
      nonzero_below word mask (places_in l) has_first small masks
      (λ b lt. tells b lt ∙ sym (rw (lt-ltb b 64 lt) refl))
      (λ b le. and_left _ _ (le-ltb b 64 le))
      ∙ same_answers _ _ from_words to_words
