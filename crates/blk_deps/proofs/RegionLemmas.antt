-- Which facts a write to some bits of a row leaves as they were.
use Rattle.std.proofs.Common.{◌≡◌, ◌⊎◌, inl, inr, ℕ, ◌+◌, ◌*◌, ◌<◌, ◌≤◌, ◌==◌, ◌&&◌, nat_lt, List, length, Bool, true, false, Option, None, Some, if◌then◌else◌, refl, sym, ap, ◌∙◌, arith}
use Rattle.std.proofs.lemmas.Bool.{and_parts, ltb-true}
use Rattle.dataflow.specs.Bits.{facts_in}
use Rattle.blk_deps.specs.Cells.{is_byte, is_hand}
use Rattle.blk_deps.specs.Layout.{IsLayout, places_in, value_words, row_words, block_at, slot, no_bit, property_bit, cell_bit, absent_bit, overwriter_bit, shown}
use Rattle.blk_deps.specs.Fits.{is_kept_in_value, has_absent}
use Rattle.blk_deps.specs.declared.layout.Layout.{Layout}
use Rattle.blk_deps.specs.declared.fact.Provenance.TheVariants.{EntryOf, Old, Undefined, Outside}
use Rattle.blk_deps.specs.declared.fact.Property.{Property}
use Rattle.blk_deps.specs.declared.fact.Property.TheVariants.{NotEntryOf, ComesFrom, Pair}
use Rattle.blk_deps.specs.declared.fact.Fact.TheVariants.{Has, Overwrites, Unwritten}
use Rattle.blk_deps.proofs.PropertyLemmas.{shifted, within_value, absent_bits}

-- bits that lie outside are as before
pub record ChangesOnly (lo hi : ℕ) (old new : List ℕ) : Type 0 where
  pub kept : (n : ℕ) → (n < lo) ⊎ (hi ≤ n) → facts_in new n ≡ facts_in old n

module _ (l : Layout) (is : IsLayout l) (old new : List ℕ) (lo hi : ℕ) (only : ChangesOnly lo hi old new)
    (old_fits : length old ≡ row_words l) (new_fits : length new ≡ row_words l) (behind_here : 0 < lo) (ends : hi ≤ 64 * row_words l) where
  pub here_kept : facts_in new 0 ≡ facts_in old 0
  here_kept = only.kept 0 (inl behind_here)

  nowhere_kept : facts_in new (no_bit l) ≡ facts_in old (no_bit l)
  nowhere_kept = only.kept (no_bit l) (inr ends)

  -- bits of a value
  pub value_kept : (word : ℕ) (property : Property) → (hi ≤ 64 * word) ⊎ (64 * (word + value_words l) ≤ lo)
      → (t : Bool) → is_kept_in_value l property ≡ t → facts_in new (property_bit l word property) ≡ facts_in old (property_bit l word property)
  value_kept word property apart true kept =
      let lt = within_value l property is kept in
      let at = shifted l word property kept in
      only.kept (property_bit l word property) (elim apart [
        | inl le ↦ inr (omega (arith, le, at))
        | inr le ↦ inl (omega (arith, le, at, lt))
      ])
  value_kept word property apart false gone =
      absent_bits l word new property (omega (arith, new_fits)) gone
      ∙ ap (λ b. has_absent b property) here_kept
      ∙ sym (absent_bits l word old property (omega (arith, old_fits)) gone)

  absent_kept : (c : ℕ) (property : Property) → facts_in new (absent_bit l c property) ≡ facts_in old (absent_bit l c property)
  absent_kept c (NotEntryOf e) = one_of (c == e)
    where
      one_of : (t : Bool) → facts_in new (if t then no_bit l else 0) ≡ facts_in old (if t then no_bit l else 0)
      one_of true = nowhere_kept
      one_of false = here_kept
  absent_kept c (ComesFrom (EntryOf e)) = one_of (c == e)
    where
      one_of : (t : Bool) → facts_in new (if t then 0 else no_bit l) ≡ facts_in old (if t then 0 else no_bit l)
      one_of true = here_kept
      one_of false = nowhere_kept
  absent_kept c (ComesFrom (Old k)) = nowhere_kept
  absent_kept c (ComesFrom Undefined) = nowhere_kept
  absent_kept c (ComesFrom Outside) = nowhere_kept
  absent_kept c (Pair d p) = nowhere_kept

  pub cell_kept : (c : ℕ) (property : Property) → ((y : ℕ) → slot l c ≡ Some y → (hi ≤ 64 * block_at l y) ⊎ (64 * (block_at l y + value_words l) ≤ lo))
      → shown l new (Has c property) ≡ shown l old (Has c property)
  cell_kept c property apart = by_slot (is_hand c) (slot l c) apart
    where
      by_slot : (t : Bool) (o : Option ℕ) → ((y : ℕ) → o ≡ Some y → (hi ≤ 64 * block_at l y) ⊎ (64 * (block_at l y + value_words l) ≤ lo))
          → facts_in new (if t then 0 else cell_bit l c property o) ≡ facts_in old (if t then 0 else cell_bit l c property o)
      by_slot true o far = here_kept
      by_slot false None far = absent_kept c property
      by_slot false (Some y) far = value_kept (block_at l y) property (far y refl) _ refl

  pub overwriter_kept : (d c : ℕ)
      → ((y : ℕ) → slot l c ≡ Some y → d < places_in l
      → (hi ≤ 64 * (block_at l y + value_words l) + d) ⊎ (64 * (block_at l y + value_words l) + d < lo))
      → shown l new (Overwrites d c) ≡ shown l old (Overwrites d c)
  overwriter_kept d c apart = by_slot (is_byte c) (slot l c) apart
    where
      by_slot : (t : Bool) (o : Option ℕ)
          → ((y : ℕ) → o ≡ Some y → d < places_in l → (hi ≤ 64 * (block_at l y + value_words l) + d) ⊎ (64 * (block_at l y + value_words l) + d < lo))
          → facts_in new (if t then overwriter_bit l d o else no_bit l) ≡ facts_in old (if t then overwriter_bit l d o else no_bit l)
      by_slot false o far = nowhere_kept
      by_slot true None far = nowhere_kept
      by_slot true (Some y) far = by_place (nat_lt d (places_in l)) refl
        where
          by_place : (t : Bool) → nat_lt d (places_in l) ≡ t
              → facts_in new (if t then 64 * (block_at l y + value_words l) + d else no_bit l)
              ≡ facts_in old (if t then 64 * (block_at l y + value_words l) + d else no_bit l)
          by_place true lt = elim (far y refl (ltb-true d (places_in l) lt)) [
            | inl le ↦ only.kept (64 * (block_at l y + value_words l) + d) (inr le)
            | inr below ↦ only.kept (64 * (block_at l y + value_words l) + d) (inl below)
          ]
          by_place false ge = nowhere_kept

  pub unwritten_kept : (k b : ℕ) → (k < l.operands → b < 64 → (hi ≤ 64 * (1 + k) + b) ⊎ (64 * (1 + k) + b < lo))
      → shown l new (Unwritten k b) ≡ shown l old (Unwritten k b)
  unwritten_kept k b apart = by_bound (nat_lt k l.operands && nat_lt b 64) refl
    where
      by_bound : (t : Bool) → (nat_lt k l.operands && nat_lt b 64) ≡ t
          → facts_in new (if t then 64 * (1 + k) + b else no_bit l) ≡ facts_in old (if t then 64 * (1 + k) + b else no_bit l)
      by_bound true there =
          let parts = and_parts (nat_lt k l.operands) (nat_lt b 64) there in
          elim (apart (ltb-true k l.operands parts.0) (ltb-true b 64 parts.1)) [
            | inl le ↦ only.kept (64 * (1 + k) + b) (inr le)
            | inr below ↦ only.kept (64 * (1 + k) + b) (inl below)
          ]
      by_bound false gone = nowhere_kept
