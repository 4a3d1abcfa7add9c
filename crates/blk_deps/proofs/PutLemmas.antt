-- What a write to a cell's block does to the facts of a row.
use Rattle.std.proofs.Common.{◌≡◌, ◌≢◌, ◌⊎◌, inl, inr, ℕ, ◌+◌, ◌*◌, ◌/◌, ◌-◌, ◌<◌, ◌≤◌, ◌==◌, ◌&&◌, ◌||◌, nat_lt, nat_le, List, length, Bool, true, false, None, Some, if◌then◌else◌, refl, sym, ap, subst, ◌∙◌, arith}
use Rattle.std.proofs.lemmas.Bool.{cases_eq, cases_lt, lt-ltb, le-ltb, le-leb, lt-leb, eq-eqb, ne_eqb}
use Rattle.std.proofs.Math.Bool.{and-false}
use Rattle.std.proofs.Math.Path.{fun_ext}
use Rattle.dataflow.specs.Bits.{facts_in}
use Rattle.blk_deps.specs.Cells.{is_byte}
use Rattle.blk_deps.specs.Facts.{Facts}
use Rattle.blk_deps.specs.Layout.{IsLayout, places_in, value_words, block_words, row_words, block_at, slot, property_bit, shown, shown_value}
use Rattle.blk_deps.specs.Fits.{has_slot, is_kept_in_value, has_absent, held, some_pair, IsBlockOf}
use Rattle.blk_deps.specs.Changes.{is_changed_value, is_changed, with_value, with_overwriter, without_overwriters}
use Rattle.blk_deps.specs.declared.layout.Layout.{Layout}
use Rattle.blk_deps.specs.declared.fact.Property.{Property}
use Rattle.blk_deps.specs.declared.fact.Property.TheVariants.{NotEntryOf, Pair}
use Rattle.blk_deps.specs.declared.fact.Fact.{Fact}
use Rattle.blk_deps.specs.declared.fact.Fact.TheVariants.{Here, Has, Overwrites, Unwritten, DirectionSet}
use Rattle.blk_deps.proofs.SlotLemmas.{slot_injective, blocks_apart}
use Rattle.blk_deps.proofs.PropertyLemmas.{shifted, within_value, absent_bits}
use Rattle.blk_deps.proofs.FactLemmas.{shown_of_cell, shown_overwriter, no_overwriter}
use Rattle.blk_deps.proofs.SourceLemmas.{dependence_held}
use Rattle.blk_deps.proofs.RegionLemmas.{ChangesOnly, here_kept, cell_kept, overwriter_kept, unwritten_kept}

-- what the words of a value tell of it
pub changed_is : (l : Layout) (here : Bool) (value : List ℕ) (has : Property → Bool) (c : ℕ) → IsLayout l → length value ≡ value_words l
    → has_slot l c ≡ true → ((property : Property) → held l here value property ≡ has property)
    → is_changed_value l value c ≡ (has (NotEntryOf c) || some_pair (λ d p. has (Pair d p)))
changed_is l here value has c is fits there holds =
    ap (λ b. b || some_pair (λ d p. shown_value l value (Pair d p))) own
    ∙ ap (λ test. has (NotEntryOf c) || some_pair test) (fun_ext (λ d. fun_ext (λ p. pair d p)))
  where
    own : shown_value l value (NotEntryOf c) ≡ has (NotEntryOf c)
    own = subst (λ t. (if t then shown_value l value (NotEntryOf c) else has_absent here (NotEntryOf c)) ≡ has (NotEntryOf c)) there (holds (NotEntryOf c))

    pair : (d p : ℕ) → shown_value l value (Pair d p) ≡ has (Pair d p)
    pair d p = sym (dependence_held l here value (Pair d p) is fits refl) ∙ holds (Pair d p)

pub changed_same : (l : Layout) (here : Bool) (value : List ℕ) (s : Facts) (c : ℕ) → IsLayout l → length value ≡ value_words l → has_slot l c ≡ true
    → ((property : Property) → held l here value property ≡ s (Has c property)) → is_changed_value l value c ≡ is_changed s c
changed_same l here value s c is fits there holds = changed_is l here value (λ property. s (Has c property)) c is fits there holds

module _ (l : Layout) (is : IsLayout l) (old new : List ℕ) (u at : ℕ) (block : IsBlockOf l u at)
    (old_fits : length old ≡ row_words l) (new_fits : length new ≡ row_words l) where
  abbrev x : ℕ
  x = block.number

  -- other cells have other blocks
  apart : (c y : ℕ) → c ≢ u → slot l c ≡ Some y → (at + block_words l ≤ block_at l y) ⊎ (block_at l y + block_words l ≤ at)
  apart c y differ has = elim (blocks_apart l x y (λ e. differ (slot_injective l c u y is has (subst (λ z. slot l u ≡ Some z) e block.is_slot)))) [
    | inl le ↦ inl (subst (λ a. a + block_words l ≤ block_at l y) (sym block.begins) le)
    | inr le ↦ inr (subst (λ a. block_at l y + block_words l ≤ a) (sym block.begins) le)
  ]

  own : (y : ℕ) → slot l u ≡ Some y → block_at l y ≡ at
  own y has = sym (block.begins ∙ ap (block_at l) (some_is (sym block.is_slot ∙ has)))
    where
      some_is : {a b : ℕ} → Some a ≡ Some b → a ≡ b
      some_is e = ap (λ o. elim o [ None ↦ 0 | Some z ↦ z ]) e

  -- ---- a write to the overwriters

  module _ (lo hi : ℕ) (only : ChangesOnly lo hi old new) (from : 64 * (at + value_words l) ≤ lo) (to : hi ≤ 64 * (at + value_words l) + 64) where
    over_ends : hi ≤ 64 * row_words l
    over_ends = let ends = block.ends in omega (arith, to, ends)

    over_here : 0 < lo
    over_here = let begins = block.begins in omega (arith, from, begins)

    pub over_zero : facts_in new 0 ≡ facts_in old 0
    over_zero = here_kept l is old new lo hi only old_fits new_fits over_here over_ends

    pub over_direction : facts_in new 1 ≡ facts_in old 1
    over_direction = let begins = block.begins in only.kept 1 (inl (omega (arith, from, begins)))

    pub over_unwritten : (k b : ℕ) → shown l new (Unwritten k b) ≡ shown l old (Unwritten k b)
    over_unwritten k b = unwritten_kept l is old new lo hi only old_fits new_fits over_here over_ends k b
        (λ there lt. let begins = block.begins in inr (omega (arith, from, begins, there, lt)))

    pub over_cell : (c : ℕ) (property : Property) → shown l new (Has c property) ≡ shown l old (Has c property)
    over_cell c property = cell_kept l is old new lo hi only old_fits new_fits over_here over_ends c property (elim (cases_eq c u) [
      | inl same ↦ λ y has. let mine = own y (subst (λ e. slot l e ≡ Some y) same has) in inr (omega (arith, from, mine))
      | inr differ ↦ λ y has. elim (apart c y differ has) [
        | inl le ↦ inl (omega (arith, to, le))
        | inr le ↦ inr (omega (arith, from, le))
      ]
    ])

    pub over_other : (d c : ℕ) → c ≢ u → shown l new (Overwrites d c) ≡ shown l old (Overwrites d c)
    over_other d c differ = overwriter_kept l is old new lo hi only old_fits new_fits over_here over_ends d c
        (λ y has lt. elim (apart c y differ has) [
          | inl le ↦ inl (omega (arith, to, le))
          | inr le ↦ inr (omega (arith, from, le, lt, is.operands))
        ])

    pub over_same : (d : ℕ) → (hi ≤ 64 * (at + value_words l) + d) ⊎ (64 * (at + value_words l) + d < lo)
        → shown l new (Overwrites d u) ≡ shown l old (Overwrites d u)
    over_same d outside = overwriter_kept l is old new lo hi only old_fits new_fits over_here over_ends d u
        (λ y has lt. subst (λ a. (hi ≤ 64 * (a + value_words l) + d) ⊎ (64 * (a + value_words l) + d < lo)) (sym (own y has)) outside)

  pub overwriter_is : (row : List ℕ) (d : ℕ) → is_byte u ≡ true → d < places_in l
      → shown l row (Overwrites d u) ≡ facts_in row (64 * (at + value_words l) + d)
  overwriter_is row d byte lt =
      shown_overwriter l row d u x byte block.is_slot lt ∙ ap (λ a. facts_in row (64 * (a + value_words l) + d)) (sym block.begins)

  -- one bit is set or taken out
  module _ (p : ℕ) (on : Bool) (byte : is_byte u ≡ true) (within : p < places_in l)
      (bits : (n : ℕ) → facts_in new n ≡ (if n == 64 * (at + value_words l) + p then on else facts_in old n)) where
    abbrev bit : ℕ
    bit = 64 * (at + value_words l) + p

    bit_only : ChangesOnly bit (bit + 1) old new
    bit_only = record {
      kept = λ n outside. bits n ∙ ap (λ t. if t then on else facts_in old n) (ne_eqb n bit (elim outside [
        | inl lt ↦ λ e. omega (arith, lt, e)
        | inr ge ↦ λ e. omega (arith, ge, e)
      ]));
    }

    bit_to : bit + 1 ≤ 64 * (at + value_words l) + 64
    bit_to = omega (arith, within, is.operands)

    of_same : (d : ℕ) → shown l new (Overwrites d u) ≡ (if d == p then on else shown l old (Overwrites d u))
    of_same d = elim (cases_eq d p) [
      | inl same ↦ rw (eq-eqb d p same) (ap (λ e. shown l new (Overwrites e u)) same ∙ overwriter_is new p byte within
          ∙ bits bit ∙ ap (λ t. if t then on else facts_in old bit) (eq-eqb bit bit refl))
      | inr differ ↦ rw (ne_eqb d p differ) (over_same bit (bit + 1) bit_only (omega arith) bit_to d (elim (cases_lt d p) [
        | inl lt ↦ inr (omega (arith, lt))
        | inr ge ↦ inl (omega (arith, ge, differ))
      ]))
    ]

    pub bit_marked : (fact : Fact) → shown l new fact ≡ with_overwriter p u on (shown l old) fact
    bit_marked Here = over_zero bit (bit + 1) bit_only (omega arith) bit_to
    bit_marked DirectionSet = over_direction bit (bit + 1) bit_only (omega arith) bit_to
    bit_marked (Unwritten k b) = over_unwritten bit (bit + 1) bit_only (omega arith) bit_to k b
    bit_marked (Has c property) = over_cell bit (bit + 1) bit_only (omega arith) bit_to c property
    bit_marked (Overwrites d c) = elim (cases_eq c u) [
      | inl same ↦ ap (λ e. shown l new (Overwrites d e)) same ∙ of_same d
          ∙ ap (λ e. if d == p then on else shown l old (Overwrites d e)) (sym same)
          ∙ ap (λ t. if t && d == p then on else shown l old (Overwrites d c)) (sym (eq-eqb c u same))
      | inr differ ↦ over_other bit (bit + 1) bit_only (omega arith) bit_to d c differ
          ∙ ap (λ t. if t && d == p then on else shown l old (Overwrites d c)) (sym (ne_eqb c u differ))
    ]

  -- all are taken out
  module _ (byte : is_byte u ≡ true) (bits : (n : ℕ) → facts_in new n ≡ (if n / 64 == at + value_words l then false else facts_in old n)) where
    abbrev word_lo : ℕ
    word_lo = 64 * (at + value_words l)

    word_only : ChangesOnly word_lo (word_lo + 64) old new
    word_only = record {
      kept = λ n outside. bits n ∙ ap (λ t. if t then false else facts_in old n) (ne_eqb (n / 64) (at + value_words l) (elim outside [
        | inl lt ↦ λ e. omega (arith, lt, e)
        | inr ge ↦ λ e. omega (arith, ge, e)
      ]));
    }

    none_same : (d : ℕ) → shown l new (Overwrites d u) ≡ false
    none_same d = elim (cases_lt d (places_in l)) [
      | inl lt ↦ overwriter_is new d byte lt ∙ bits (word_lo + d)
          ∙ ap (λ t. if t then false else facts_in old (word_lo + d)) (eq-eqb ((word_lo + d) / 64) (at + value_words l) (omega (arith, lt, is.operands)))
      | inr ge ↦ no_overwriter l new d u x (omega (arith, new_fits)) block.is_slot ge
    ]

    pub word_cleared : (fact : Fact) → shown l new fact ≡ without_overwriters u (shown l old) fact
    word_cleared Here = over_zero word_lo (word_lo + 64) word_only (omega arith) (omega arith)
    word_cleared DirectionSet = over_direction word_lo (word_lo + 64) word_only (omega arith) (omega arith)
    word_cleared (Unwritten k b) = over_unwritten word_lo (word_lo + 64) word_only (omega arith) (omega arith) k b
    word_cleared (Has c property) = over_cell word_lo (word_lo + 64) word_only (omega arith) (omega arith) c property
    word_cleared (Overwrites d c) = elim (cases_eq c u) [
      | inl same ↦ ap (λ e. shown l new (Overwrites d e)) same ∙ none_same d
          ∙ ap (λ t. if t then false else shown l old (Overwrites d c)) (sym (eq-eqb c u same))
      | inr differ ↦ over_other word_lo (word_lo + 64) word_only (omega arith) (omega arith) d c differ
          ∙ ap (λ t. if t then false else shown l old (Overwrites d c)) (sym (ne_eqb c u differ))
    ]

  -- ---- a write to the value

  module _ (from : List ℕ) (fits : length from ≡ value_words l)
      (bits : (n : ℕ) → facts_in new n
      ≡ (if nat_le at (n / 64) && nat_lt (n / 64) (at + length from) then facts_in from (n - 64 * at) else facts_in old n)) where
    abbrev value_lo : ℕ
    value_lo = 64 * at

    abbrev value_hi : ℕ
    value_hi = 64 * (at + value_words l)

    outside : (n : ℕ) → (n < value_lo) ⊎ (value_hi ≤ n) → (nat_le at (n / 64) && nat_lt (n / 64) (at + length from)) ≡ false
    outside n (inl lt) = ap (λ t. t && nat_lt (n / 64) (at + length from)) (lt-leb at (n / 64) (omega (arith, lt)))
    outside n (inr ge) = ap (λ t. nat_le at (n / 64) && t) (le-ltb (n / 64) (at + length from) (omega (arith, ge, fits))) ∙ and-false (nat_le at (n / 64))

    value_only : ChangesOnly value_lo value_hi old new
    value_only = record { kept = λ n out. bits n ∙ ap (λ t. if t then facts_in from (n - 64 * at) else facts_in old n) (outside n out) }

    value_ends : value_hi ≤ 64 * row_words l
    value_ends = let value_ends = block.ends in omega (arith, value_ends)

    starts : 0 < value_lo
    starts = let begins = block.begins in omega (arith, begins)

    here : facts_in new 0 ≡ facts_in old 0
    here = here_kept l is old new value_lo value_hi value_only old_fits new_fits starts value_ends

    inside : (n : ℕ) → n < 64 * value_words l → facts_in new (64 * at + n) ≡ facts_in from n
    inside n lt =
        let back : 64 * at + n - 64 * at ≡ n = omega arith in
        bits (64 * at + n)
        ∙ ap (λ t. if t && nat_lt ((64 * at + n) / 64) (at + length from) then facts_in from (64 * at + n - 64 * at) else facts_in old (64 * at + n))
        (le-leb at ((64 * at + n) / 64) (omega arith))
        ∙ ap (λ t. if t then facts_in from (64 * at + n - 64 * at) else facts_in old (64 * at + n))
        (lt-ltb ((64 * at + n) / 64) (at + length from) (omega (arith, lt, fits)))
        ∙ ap (facts_in from) back

    value_bit : (property : Property) (t : Bool) → is_kept_in_value l property ≡ t
        → facts_in new (property_bit l at property) ≡ held l (facts_in old 0) from property
    value_bit property true kept =
        ap (facts_in new) (shifted l at property kept) ∙ inside (property_bit l 0 property) (within_value l property is kept)
        ∙ ap (λ t. if t then shown_value l from property else has_absent (facts_in old 0) property) (sym kept)
    value_bit property false gone =
        absent_bits l at new property (omega (arith, new_fits)) gone ∙ ap (λ b. has_absent b property) here
        ∙ ap (λ t. if t then shown_value l from property else has_absent (facts_in old 0) property) (sym gone)

    pub value_put : (fact : Fact) → shown l new fact ≡ with_value l from u (shown l old) fact
    value_put Here = here
    value_put DirectionSet = let begins = block.begins in value_only.kept 1 (inl (omega (arith, begins)))
    value_put (Unwritten k b) = unwritten_kept l is old new value_lo value_hi value_only old_fits new_fits starts value_ends k b
        (λ there lt. let begins = block.begins in inr (omega (arith, begins, there, lt)))
    value_put (Overwrites d c) = overwriter_kept l is old new value_lo value_hi value_only old_fits new_fits starts value_ends d c (elim (cases_eq c u) [
      | inl same ↦ λ y has lt. let mine = own y (subst (λ e. slot l e ≡ Some y) same has) in inl (omega (arith, mine))
      | inr differ ↦ λ y has lt. elim (apart c y differ has) [
        | inl le ↦ inl (omega (arith, le))
        | inr le ↦ inr (omega (arith, le, lt, is.operands))
      ]
    ])
    value_put (Has c property) = elim (cases_eq c u) [
      | inl same ↦ ap (λ e. shown l new (Has e property)) same
          ∙ shown_of_cell l new u x property is block.is_slot
          ∙ ap (λ a. facts_in new (property_bit l a property)) (sym block.begins)
          ∙ value_bit property _ refl
          ∙ ap (λ t. if t then held l (facts_in old 0) from property else shown l old (Has c property)) (sym (eq-eqb c u same))
      | inr differ ↦ cell_kept l is old new value_lo value_hi value_only old_fits new_fits starts value_ends c property
          (λ y has. elim (apart c y differ has) [ inl le ↦ inl (omega (arith, le)) | inr le ↦ inr (omega (arith, le)) ])
          ∙ ap (λ t. if t then held l (facts_in old 0) from property else shown l old (Has c property)) (sym (ne_eqb c u differ))
    ]
