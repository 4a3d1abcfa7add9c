-- Where the bits of a value's properties lie.
use Rattle.std.proofs.Common.{◌≡◌, inl, inr, ℕ, ◌+◌, ◌*◌, ◌<◌, ◌≤◌, ◌&&◌, nat_lt, List, length, slice_index, true, false, Option, None, Some, is_some, refl, sym, ap, ◌∙◌, arith}
use Rattle.std.specs.List.{between}
use Rattle.std.proofs.lemmas.Bool.{true≢false, false≢true, and_parts, cases_Bool, cases_lt, ltb-true, lt-ltb, le-ltb}
use Rattle.std.proofs.Math.Bool.{and-true, and-false}
use Rattle.dataflow.specs.Bits.{facts_in}
use Rattle.blk_deps.specs.Ground.{has_bit}
use Rattle.blk_deps.specs.Layout.{IsLayout, places_in, cells_in, cell_words, value_words, block_words, row_words, slot, at_slot, no_bit, property_bit, shown_value}
use Rattle.blk_deps.specs.Fits.{is_kept_in_value, has_absent, held}
use Rattle.blk_deps.specs.declared.layout.Layout.{Layout}
use Rattle.blk_deps.specs.declared.fact.Provenance.TheVariants.{EntryOf, Old, Undefined, Outside}
use Rattle.blk_deps.specs.declared.fact.Property.{Property}
use Rattle.blk_deps.specs.declared.fact.Property.TheVariants.{NotEntryOf, ComesFrom, Pair}
use Rattle.blk_deps.proofs.SlotLemmas.{slot_inside, block_ends}
use Rattle.blk_deps.proofs.WordLemmas.{facts_between, facts_past, facts_bit}

shifted_slot : (word from at one two : ℕ) (o : Option ℕ) → from ≡ word + at → is_some o ≡ true
    → at_slot from o one ≡ 64 * word + at_slot at o two
shifted_slot word from at one two None moved e = absurd (false≢true e)
shifted_slot word from at one two (Some x) moved e = omega arith

-- the bits of a value that begins at a word are those of one that begins at 0
pub shifted : (l : Layout) (word : ℕ) (property : Property) → is_kept_in_value l property ≡ true
    → property_bit l word property ≡ 64 * word + property_bit l 0 property
shifted l word (NotEntryOf e) kept = shifted_slot word word 0 0 0 (slot l e) (omega arith) kept
shifted l word (ComesFrom (EntryOf e)) kept =
    shifted_slot word (word + cell_words l) (0 + cell_words l) (no_bit l) (no_bit l) (slot l e) (omega arith) kept
shifted l word (ComesFrom (Old k)) kept = rw kept (omega arith)
shifted l word (ComesFrom Undefined) kept = omega arith
shifted l word (ComesFrom Outside) kept = omega arith
shifted l word (Pair d p) kept = rw kept (omega arith)

pub slot_within : (l : Layout) (e from bound other : ℕ) (o : Option ℕ) → IsLayout l → slot l e ≡ o → is_some o ≡ true
    → from + cell_words l ≤ bound → at_slot from o other < 64 * bound
slot_within l e from bound other None is same some le = absurd (false≢true some)
slot_within l e from bound other (Some x) is same some le = let lt = slot_inside l e x is same in omega (arith, lt, le)

-- they are bits of its words
pub within_value : (l : Layout) (property : Property) → IsLayout l → is_kept_in_value l property ≡ true
    → property_bit l 0 property < 64 * value_words l
within_value l (NotEntryOf e) is kept = slot_within l e 0 (value_words l) 0 (slot l e) is refl kept (omega arith)
within_value l (ComesFrom (EntryOf e)) is kept =
    slot_within l e (0 + cell_words l) (value_words l) (no_bit l) (slot l e) is refl kept (omega arith)
within_value l (ComesFrom (Old k)) is kept = rw kept (let lt = ltb-true k l.operands kept in omega (arith, lt, is.operands))
within_value l (ComesFrom Undefined) is kept = omega arith
within_value l (ComesFrom Outside) is kept = omega arith
within_value l (Pair d p) is kept = rw kept (
    let both = and_parts _ _ kept in
    let first = ltb-true d (places_in l) both.0 in
    let second = ltb-true p (places_in l) both.1 in
    omega (arith, first, second, is.operands))

-- ---- properties that have no bit

pub has_no_bit : (l : Layout) (row : List ℕ) → length row ≤ row_words l → facts_in row (no_bit l) ≡ false
has_no_bit l row fits = facts_past row (no_bit l) (omega (arith, fits))

absent_slot : (l : Layout) (word other : ℕ) (o : Option ℕ) → is_some o ≡ false → at_slot word o other ≡ other
absent_slot l word other None e = refl
absent_slot l word other (Some x) e = absurd (true≢false e)

pub absent_bits : (l : Layout) (word : ℕ) (row : List ℕ) (property : Property) → length row ≤ row_words l
    → is_kept_in_value l property ≡ false → facts_in row (property_bit l word property) ≡ has_absent (facts_in row 0) property
absent_bits l word row (NotEntryOf e) fits gone = rw (absent_slot l word 0 (slot l e) gone) refl
absent_bits l word row (ComesFrom (EntryOf e)) fits gone = rw (absent_slot l (word + cell_words l) (no_bit l) (slot l e) gone) (has_no_bit l row fits)
absent_bits l word row (ComesFrom (Old k)) fits gone = rw gone (has_no_bit l row fits)
absent_bits l word row (ComesFrom Undefined) fits gone = absurd (true≢false gone)
absent_bits l word row (ComesFrom Outside) fits gone = absurd (true≢false gone)
absent_bits l word row (Pair d p) fits gone = rw gone (has_no_bit l row fits)

-- ---- a value that is a part of a row

pub kept_in_part : (l : Layout) (row : List ℕ) (at : ℕ) (property : Property) → IsLayout l → is_kept_in_value l property ≡ true
    → shown_value l (between at (at + value_words l) row) property ≡ facts_in row (property_bit l at property)
kept_in_part l row at property is kept =
    let lt = within_value l property is kept in
    facts_between row at (value_words l) (property_bit l 0 property) (omega (arith, lt))
    ∙ sym (ap (facts_in row) (shifted l at property kept))

pub held_in_part : (l : Layout) (row : List ℕ) (at : ℕ) (property : Property) → IsLayout l → length row ≤ row_words l
    → held l (facts_in row 0) (between at (at + value_words l) row) property ≡ facts_in row (property_bit l at property)
held_in_part l row at property is fits = elim (cases_Bool (is_kept_in_value l property)) [
  | inl kept ↦ rw kept (kept_in_part l row at property is kept)
  | inr gone ↦ rw gone (sym (absent_bits l at row property fits gone))
]

zero_first : (w p : ℕ) → 2 * w + 1 + p ≡ 0 + 2 * w + 1 + p
zero_first w p = omega arith

-- a value is shorter than a row
pub value_in_row : (l : Layout) → value_words l ≤ row_words l
value_in_row l = let ends = block_ends (block_words l) 0 (cells_in l) (omega arith) in omega (arith, ends)

-- a pair of a value, where the places below the count are asked of its word
pub pair_masked : (l : Layout) (value : List ℕ) (d p mask : ℕ) → IsLayout l → length value ≡ value_words l
    → ((b : ℕ) → b < 64 → has_bit mask b ≡ nat_lt b (places_in l)) → d < 64 → p < places_in l
    → (has_bit (slice_index value (2 * cell_words l + 1 + p)) d && has_bit mask d) ≡ shown_value l value (Pair d p)
pair_masked l value d p mask is fits masks lt within = elim (cases_lt d (places_in l)) [
  | inl there ↦ rw (masks d lt, lt-ltb d (places_in l) there, lt-ltb p (places_in l) within) (and-true _
      ∙ sym (facts_bit value (2 * cell_words l + 1 + p) d lt)
      ∙ ap (λ w. facts_in value (64 * w + d)) (zero_first (cell_words l) p))
  | inr gone ↦ rw (masks d lt, le-ltb d (places_in l) gone) (and-false _ ∙ sym (has_no_bit l value (omega (arith, fits, value_in_row l))))
]
