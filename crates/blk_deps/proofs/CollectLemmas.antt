-- Putting values to values.
use Rattle.std.proofs.Common.{◌≡◌, ◌≢◌, inl, inr, ℕ, ◌+◌, ◌*◌, ◌/◌, ◌%◌, ◌<◌, ◌≤◌, ◌==◌, ◌&&◌, ◌||◌, nat_lt, nat_le, List, length, Bool, true, false, IsTrue, Option, Some, None, if◌then◌else◌, refl, sym, ap, ◌∙◌, arith}
use Rattle.std.specs.List.{list_any, range_with_len}
use Rattle.std.proofs.Math.Bool.{or-false, or_assoc, and-false}
use Rattle.std.proofs.lemmas.Bool.{false≢true, cases_eq, ltb-true, eq-eqb, ne_eqb}
use Rattle.dataflow.specs.Bits.{facts_in}
use Rattle.blk_deps.specs.Facts.{Facts, has_as_read}
use Rattle.blk_deps.specs.Fits.{is_dependence, is_kept_in_value, has_absent, held, JoinsAsRead}
use Rattle.blk_deps.specs.Ground.{has_bit}
use Rattle.blk_deps.specs.Layout.{IsLayout, places_in, cell_words, value_words, row_words, slot, at_slot, no_bit, property_bit, shown, shown_value}
use Rattle.blk_deps.specs.Rules.{Used}
use Rattle.blk_deps.specs.Collecting.{Adds, some_of, pairs_alone, pairs_from, in_cell}
use Rattle.blk_deps.specs.declared.layout.Layout.{Layout}
use Rattle.blk_deps.specs.declared.fact.Provenance.TheVariants.{EntryOf, Old, Undefined, Outside}
use Rattle.blk_deps.specs.declared.fact.Property.{Property}
use Rattle.blk_deps.specs.declared.fact.Property.TheVariants.{NotEntryOf, ComesFrom, Pair}
use Rattle.blk_deps.specs.declared.fact.Fact.TheVariants.{Here, Has}
use Rattle.blk_deps.proofs.AnyLaws.{one_true, same_truth, and_first, and_second, both_true, any_at, any_below, none_below}
use Rattle.blk_deps.proofs.PropertyLemmas.{absent_bits, has_no_bit}
use Rattle.blk_deps.proofs.SlotLemmas.{slot_inside, no_slot_of_byte}
use Rattle.blk_deps.proofs.SceneLemmas.{inside_pair}
use Rattle.blk_deps.proofs.UseLemmas.{fits_row}

-- ---- one after the other

pub adds_then : (l : Layout) (one two : Used) (a b c : List ℕ) → Adds l one a b → Adds l two b c
    → Adds l (λ property. one property || two property) a c
adds_then l one two a b c first second = record {
  each = λ property is. second.each property is ∙ ap (λ v. v || two property) (first.each property is)
      ∙ or_assoc (shown_value l a property) (one property) (two property);
}

pub adds_where : (l : Layout) (more : Used) (on : Bool) (a b : List ℕ) → on ≡ true → Adds l more a b
    → Adds l (λ property. on && more property) a b
adds_where l more on a b is adds = record {
  each = λ property dep. adds.each property dep
      ∙ ap (λ v. shown_value l a property || (v && more property)) (sym is);
}

pub adds_nothing : (l : Layout) (more : Used) (on : Bool) (a : List ℕ) → on ≡ false
    → Adds l (λ property. on && more property) a a
adds_nothing l more on a is = record {
  each = λ property dep. sym (ap (λ v. shown_value l a property ||
      (v && more property)) is ∙ or-false (shown_value l a property));
}

some_more : (test : ℕ → Bool) (n : ℕ) → (some_of test n || test n) ≡ some_of test (n + 1)
unfolding some_of
some_more test n = same_truth _ _ to from
  where
    to : (list_any test (range_with_len 0 n) || test n) ≡ true → list_any test (range_with_len 0 (n + 1)) ≡ true
    to some = elim (one_true (list_any test (range_with_len 0 n)) (test n) some) [
      | inl before ↦ let found = any_below test n before in
          any_at test (n + 1) found.at (omega (arith, found.below)) found.passes
      | inr here ↦ any_at test (n + 1) n (omega arith) here
    ]

    from : list_any test (range_with_len 0 (n + 1)) ≡ true → (list_any test (range_with_len 0 n) || test n) ≡ true
    from some = let found = any_below test (n + 1) some in elim (cases_eq found.at n) [
      | inl same ↦ or_right _ _ (ap test (sym same) ∙ found.passes)
      | inr other ↦ or_left _ _ (any_at test n found.at (omega (arith, found.below, other)) found.passes)
    ]
      where
        or_left : (a b : Bool) → a ≡ true → (a || b) ≡ true
        or_left a b is = rw is refl

        or_right : (a b : Bool) → b ≡ true → (a || b) ≡ true
        or_right true b is = refl
        or_right false b is = is

none_of : (test : ℕ → Bool) → some_of test 0 ≡ false
unfolding some_of
none_of test = refl

pub some_start : (l : Layout) (test : Property → ℕ → Bool) (a : List ℕ)
    → Adds l (λ property. some_of (test property) 0) a a
some_start l test a = record {
  each = λ property is. sym (ap (λ v. shown_value l a property || v) (none_of
      (test property)) ∙ or-false (shown_value l a property));
}

pub some_next : (l : Layout) (test : Property → ℕ → Bool) (n : ℕ) (a b c : List ℕ)
    → Adds l (λ property. some_of (test property) n) a b → Adds l (λ property. test property n) b c
    → Adds l (λ property. some_of (test property) (n + 1)) a c
some_next l test n a b c before here = record {
  each = λ property is. here.each property is ∙ ap (λ v. v || test property n) (before.each property is)
      ∙ or_assoc (shown_value l a property) (some_of (test property) n) (test property n)
      ∙ ap (λ v. shown_value l a property || v) (some_more (test property) n);
}

-- ---- a cell as it is read

no_absent : (b : Bool) (property : Property) → IsTrue (is_dependence property) → has_absent b property ≡ false
no_absent b (NotEntryOf e) is = absurd (false≢true is)
no_absent b (ComesFrom source) is = refl
no_absent b (Pair d u) is = refl

held_is : (l : Layout) (here : Bool) (words : List ℕ) (property : Property) → length words ≡ value_words l
    → IsTrue (is_dependence property) → held l here words property ≡ shown_value l words property
held_is l here words property size is = by (is_kept_in_value l property) refl
  where
    by : (b : Bool) → is_kept_in_value l property ≡ b → held l here words property ≡ shown_value l words property
    by true kept = rw kept refl
    by false gone = rw gone (no_absent here property is
        ∙ sym (absent_bits l 0 words property (let fits = fits_row l in omega (arith, fits, size)) gone
        ∙ no_absent (facts_in words 0) property is))

pub adds_as_read : (l : Layout) (facts : Facts) (u : ℕ) (a b : List ℕ) → length a ≡ value_words l → length b
    ≡ value_words l → JoinsAsRead l facts u a b → Adds l (λ property. has_as_read facts u property) a b
adds_as_read l facts u a b size too joins = record {
  each = λ property is. sym (held_is l (facts Here) b property too is) ∙ joins.each property
      ∙ ap (λ v. v || has_as_read facts u property) (held_is l (facts Here) a property size is);
}

-- ---- pairs

same_word : (old : List ℕ) (n word bit more : ℕ) (value : Bool) → n / 64 ≡ word → n % 64 ≡ bit → has_bit more bit
    ≡ value
    → (facts_in old n || (n / 64 == word && has_bit more (n % 64))) ≡ (facts_in old n || value)
same_word old n word bit more value at is has =
    ap (λ b. facts_in old n || (b && has_bit more (n % 64))) (eq-eqb (n / 64) word at)
    ∙ ap (λ b. facts_in old n || has_bit more b) is ∙ ap (λ b. facts_in old n || b) has

module _ (l : Layout) (u more : ℕ) (old new : List ℕ) (is : IsLayout l) (place : u < places_in l)
    (bits : (n : ℕ) → facts_in new n ≡ (facts_in old n || (n / 64 == 2 * cell_words l + 1 + u && has_bit more
    (n % 64)))) where
  elsewhere : (n : ℕ) → n / 64 ≢ 2 * cell_words l + 1 + u → facts_in new n ≡ (facts_in old n || false)
  elsewhere n other = bits n ∙ ap (λ b. facts_in old n || (b && has_bit more (n % 64))) (ne_eqb (n / 64)
      (2 * cell_words l + 1 + u) other)

  not_there : facts_in new (no_bit l) ≡ (facts_in old (no_bit l) || false)
  not_there = elsewhere (no_bit l) (λ e. let fits = fits_row l in omega (arith, e, fits, place))

  at_a_slot : (o : Option ℕ) (e : ℕ) → slot l e ≡ o → facts_in new (at_slot (0 + cell_words l) o (no_bit l))
      ≡ (facts_in old (at_slot (0 + cell_words l) o (no_bit l)) || false)
  at_a_slot None e gone = not_there
  at_a_slot (Some x) e there = let inside = slot_inside l e x is there in
      elsewhere (64 * (0 + cell_words l) + x) (λ same. omega (arith, same, inside))

  of_old : (k : ℕ) (b : Bool) → nat_lt k l.operands ≡ b
      → facts_in new (if b then 64 * (0 + 2 * cell_words l) + k else no_bit l)
      ≡ (facts_in old (if b then 64 * (0 + 2 * cell_words l) + k else no_bit l) || false)
  of_old k true there = let below = ltb-true k l.operands there in
      elsewhere (64 * (0 + 2 * cell_words l) + k) (λ same. omega (arith, same, below, is.operands))
  of_old k false gone = not_there

  module _ (value : List ℕ) (size : length value ≡ value_words l) (pairs : (d : ℕ) → d < 64 → has_bit more d
      ≡ shown_value l value (Pair d u)) where
    of_pair : (d p : ℕ) (b : Bool) → (nat_lt d (places_in l) && nat_lt p (places_in l)) ≡ b
        → facts_in new (if b then 64 * (0 + 2 * cell_words l + 1 + p) + d else no_bit l)
        ≡ (facts_in old (if b then 64 * (0 + 2 * cell_words l + 1 + p) + d else no_bit l) ||
        (p == u && shown_value l value (Pair d p)))
    of_pair d p true there =
        let first = ltb-true d (places_in l) (and_first _ _ there) in
        let word : (64 * (0 + 2 * cell_words l + 1 + p) + d) / 64
        ≡ 2 * cell_words l + 1 + p = omega (arith, first, is.operands) in
        let bit : (64 * (0 + 2 * cell_words l + 1 + p) + d) % 64 ≡ d = omega (arith, first, is.operands) in
        elim (cases_eq p u) [
          | inl same ↦ bits (64 * (0 + 2 * cell_words l + 1 + p) + d)
              ∙ same_word old (64 * (0 + 2 * cell_words l + 1 + p) + d) (2 * cell_words l + 1 + u) d more
              (shown_value l value (Pair d p)) (omega (arith, word, same)) bit
              (pairs d (omega (arith, first, is.operands)) ∙ ap (λ q. shown_value l value (Pair d q)) (sym same))
              ∙ ap (λ b. facts_in old (64 * (0 + 2 * cell_words l + 1 + p) + d) || (b && shown_value l value
              (Pair d p))) (sym (eq-eqb p u same))
          | inr other ↦ elsewhere (64 * (0 + 2 * cell_words l + 1 + p) + d) (λ same. other (omega
              (arith, same, word))) ∙ rw (ne_eqb p u other) refl
        ]
    of_pair d p false gone = not_there ∙ ap (λ v. facts_in old (no_bit l) || v) (sym none)
      where
        none : (p == u && shown_value l value (Pair d p)) ≡ false
        none = rw (gone, has_no_bit l value (let fits = fits_row l in omega (arith, fits, size))) (and-false (p == u))

    every : (property : Property) → IsTrue (is_dependence property) → shown_value l new property
        ≡ (shown_value l old property || pairs_from u (shown_value l value) property)
    every (NotEntryOf e) dep = absurd (false≢true dep)
    every (ComesFrom (EntryOf e)) dep = at_a_slot (slot l e) e refl
    every (ComesFrom (Old k)) dep = of_old k (nat_lt k l.operands) refl
    every (ComesFrom Undefined) dep = elsewhere (64 * (0 + 2 * cell_words l) + 62) (λ same. omega (arith, same))
    every (ComesFrom Outside) dep = elsewhere (64 * (0 + 2 * cell_words l) + 63) (λ same. omega (arith, same))
    every (Pair d p) dep = of_pair d p (nat_lt d (places_in l) && nat_lt p (places_in l)) refl

pub adds_pairs : (l : Layout) (value old new : List ℕ) (u more : ℕ) → IsLayout l → length value ≡ value_words l
    → u < places_in l
    → ((n : ℕ) → facts_in new n ≡ (facts_in old n || (n / 64 == 2 * cell_words l + 1 + u && has_bit more (n % 64))))
    → ((d : ℕ) → d < 64 → has_bit more d ≡ shown_value l value (Pair d u))
    → Adds l (pairs_from u (shown_value l value)) old new
adds_pairs l value old new u more is size place bits pairs = record {
  each = every l u more old new is place bits
      value size pairs;
}

-- those of all places are all there are
all_from : (l : Layout) (value : List ℕ) (count : ℕ) → length value ≡ value_words l → places_in l ≤ count
    → (property : Property)
    → some_of (λ u. pairs_from u (shown_value l value) property) count ≡ pairs_alone (shown_value l value) property
unfolding some_of
all_from l value count size all (NotEntryOf e) = none_below (λ u. false) count (λ k lt. refl)
all_from l value count size all (ComesFrom source) = none_below (λ u. false) count (λ k lt. refl)
all_from l value count size all (Pair d p) = same_truth _ _ to from
  where
    to : list_any (λ u. p == u && shown_value l value (Pair d p)) (range_with_len 0 count) ≡ true
        → shown_value l value (Pair d p) ≡ true
    to some = let found = any_below (λ u. p == u && shown_value l value (Pair d p)) count some in
        and_second (p == found.at) (shown_value l value (Pair d p)) found.passes

    from : shown_value l value (Pair d p) ≡ true → list_any (λ u. p == u && shown_value l value (Pair d p))
        (range_with_len 0 count) ≡ true
    from is = let inside = inside_pair l value d p size is in
        any_at (λ u. p == u && shown_value l value (Pair d p)) count p (omega (arith, inside, all)) (both_true _ _
        (eq-eqb p p refl) is)

pub all_pairs : (l : Layout) (value a b : List ℕ) (count : ℕ) → length value ≡ value_words l → places_in l ≤ count
    → Adds l (λ property. some_of (λ u. pairs_from u (shown_value l value) property) count) a b
    → Adds l (pairs_alone (shown_value l value)) a b
all_pairs l value a b count size all adds = record {
  each = λ property is. adds.each property is
      ∙ ap (λ v. shown_value l a property || v) (all_from l value count size all property);
}

-- ---- of what has to be as at the entry

pub pairs_of_cell : (l : Layout) (facts : Facts) (c : ℕ) (value a b : List ℕ) → length value ≡ value_words l
    → ((property : Property) → held l (facts Here) value property ≡ facts (Has c property))
    → Adds l (pairs_alone (shown_value l value)) a b → Adds l (pairs_alone (in_cell facts c)) a b
pairs_of_cell l facts c value a b size has adds = record {
  each = λ property is. adds.each property is
      ∙ ap (λ v. shown_value l a property || v) (same property);
}
  where
    same : (property : Property) → pairs_alone (shown_value l value) property ≡ pairs_alone (in_cell facts c) property
    same (NotEntryOf e) = refl
    same (ComesFrom source) = refl
    same (Pair d u) = sym (held_is l (facts Here) value (Pair d u) size refl) ∙ has (Pair d u)

-- a row shows no pairs of a cell that isn't there
pub no_pair_outside : (l : Layout) (row : List ℕ) (c d u : ℕ) → length row ≡ row_words l → c < 148
    → 7 + l.operands ≤ c / 4 → shown l row (Has c (Pair d u)) ≡ false
no_pair_outside l row c d u size below past = rw (no_slot_of_byte l c below (omega arith), no_hand c below)
    (has_no_bit l row (omega (arith, size)))
  where
    no_hand : (c : ℕ) → c < 148 → nat_le 218 c ≡ false
    no_hand c below = grind arith

-- three parts put to a value that has nothing
pub all_parts : (l : Layout) (one two three : Used) (a b c d : List ℕ) → ((n : ℕ) → facts_in a n ≡ false)
    → Adds l one a b → Adds l two b c → Adds l three c d
    → (property : Property) → IsTrue (is_dependence property) → shown_value l d property
    ≡ ((one property || two property) || three property)
all_parts l one two three a b c d none first second third property is =
    third.each property is ∙ ap (λ v. v || three property) (second.each property is
    ∙ ap (λ v. v || two property) (first.each property is
    ∙ ap (λ v. v || one property) (none (property_bit l 0 property))))
