-- What a row shows of a cell that has a block.
use Rattle.std.proofs.Common.{◌≡◌, inl, inr, ℕ, ◌+◌, ◌*◌, ◌<◌, ◌≤◌, ◌&&◌, nat_lt, List, length, slice_index, true, false, Some, if◌then◌else◌, refl, sym, ap, ◌∙◌}
use Rattle.std.specs.List.{between}
use Rattle.std.proofs.lemmas.Bool.{cases_Bool, cases_lt, lt-ltb, le-ltb, lt-leb}
use Rattle.std.proofs.Math.Bool.{and-true, and-false}
use Rattle.dataflow.specs.Bits.{facts_in}
use Rattle.blk_deps.specs.Cells.{is_byte, is_hand}
use Rattle.blk_deps.specs.Layout.{IsLayout, places_in, value_words, row_words, block_at, slot, no_bit, property_bit, overwriter_bit, shown}
use Rattle.blk_deps.specs.Fits.{held, IsBlockOf}
use Rattle.blk_deps.specs.Ground.{has_bit}
use Rattle.blk_deps.specs.declared.layout.Layout.{Layout}
use Rattle.blk_deps.specs.declared.fact.Property.{Property}
use Rattle.blk_deps.specs.declared.fact.Fact.TheVariants.{Here, Has, Overwrites, Unwritten}
use Rattle.blk_deps.proofs.SlotLemmas.{slot_below}
use Rattle.blk_deps.proofs.WordLemmas.{facts_bit}
use Rattle.blk_deps.proofs.PropertyLemmas.{held_in_part, has_no_bit}

pub no_hand : (l : Layout) (c x : ℕ) → IsLayout l → slot l c ≡ Some x → is_hand c ≡ false
no_hand l c x is has = lt-leb 218 c (slot_below l c x is has)

pub shown_of_cell : (l : Layout) (row : List ℕ) (c x : ℕ) (property : Property) → IsLayout l → slot l c ≡ Some x
    → shown l row (Has c property) ≡ facts_in row (property_bit l (block_at l x) property)
shown_of_cell l row c x property is has = rw (no_hand l c x is has, has) refl

pub held_in_row : (l : Layout) (row : List ℕ) (c at : ℕ) (property : Property) → IsLayout l → length row ≤ row_words l → IsBlockOf l c at
    → held l (shown l row Here) (between at (at + value_words l) row) property ≡ shown l row (Has c property)
held_in_row l row c at property is fits block =
    held_in_part l row at property is fits
    ∙ ap (λ a. facts_in row (property_bit l a property)) block.begins
    ∙ sym (shown_of_cell l row c block.number property is block.is_slot)

pub shown_overwriter : (l : Layout) (row : List ℕ) (d c x : ℕ) → is_byte c ≡ true → slot l c ≡ Some x → d < places_in l
    → shown l row (Overwrites d c) ≡ facts_in row (64 * (block_at l x + value_words l) + d)
shown_overwriter l row d c x byte has lt =
    ap (λ o. facts_in row (if is_byte c then overwriter_bit l d o else no_bit l)) has ∙ rw (byte, lt-ltb d (places_in l) lt) refl

pub no_overwriter : (l : Layout) (row : List ℕ) (d c x : ℕ) → length row ≤ row_words l → slot l c ≡ Some x → places_in l ≤ d
    → shown l row (Overwrites d c) ≡ false
no_overwriter l row d c x fits has le =
    ap (λ o. facts_in row (if is_byte c then overwriter_bit l d o else no_bit l)) has
    ∙ rw (le-ltb d (places_in l) le) (elim (cases_Bool (is_byte c)) [
      | inl byte ↦ rw byte (has_no_bit l row fits)
      | inr other ↦ rw other (has_no_bit l row fits)
    ])

-- the places below the count, of a word
pub overwriters_masked : (l : Layout) (row : List ℕ) (d c at mask : ℕ) → IsLayout l → length row ≤ row_words l → is_byte c ≡ true → IsBlockOf l c at
    → ((b : ℕ) → b < 64 → has_bit mask b ≡ nat_lt b (places_in l)) → d < 64
    → (has_bit (slice_index row (at + value_words l)) d && has_bit mask d) ≡ shown l row (Overwrites d c)
overwriters_masked l row d c at mask is fits byte block masks lt = elim (cases_lt d (places_in l)) [
  | inl there ↦ rw (masks d lt, lt-ltb d (places_in l) there) (and-true _
      ∙ sym (facts_bit row (at + value_words l) d lt)
      ∙ ap (λ a. facts_in row (64 * (a + value_words l) + d)) block.begins
      ∙ sym (shown_overwriter l row d c block.number byte block.is_slot there))
  | inr gone ↦ rw (masks d lt, le-ltb d (places_in l) gone) (and-false _ ∙ sym (no_overwriter l row d c block.number fits block.is_slot gone))
]

pub shown_unwritten : (l : Layout) (row : List ℕ) (k b : ℕ) → k < l.operands → b < 64
    → has_bit (slice_index row (1 + k)) b ≡ shown l row (Unwritten k b)
shown_unwritten l row k b there lt = rw (lt-ltb k l.operands there, lt-ltb b 64 lt) (sym (facts_bit row (1 + k) b lt))
