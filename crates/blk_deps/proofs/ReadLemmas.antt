-- What is read of a row into a value.
use Rattle.std.proofs.Common.{◌≡◌, ◌⊎◌, inl, inr, ℕ, ◌+◌, ◌*◌, ◌/◌, ◌%◌, ◌<◌, ◌≤◌, ◌==◌, ◌&&◌, ◌||◌, nat_lt, List, length, Bool, true, false, Option, None, Some, is_some, refl, sym, ap, subst, ◌∙◌, arith}
use Rattle.std.proofs.lemmas.Bool.{true≢false, false≢true, and_parts, cases_eq, cases_lt, ltb-true, lt-ltb, eq-eqb, ne_eqb}
use Rattle.std.proofs.Math.Bool.{or-false, and-false}
use Rattle.dataflow.specs.Bits.{facts_in}
use Rattle.blk_deps.specs.Cells.{is_byte, place_of}
use Rattle.blk_deps.specs.Facts.{Facts, has_as_read}
use Rattle.blk_deps.specs.Layout.{IsLayout, places_in, cell_words, row_words, block_at, slot, no_bit, property_bit, shown}
use Rattle.blk_deps.specs.Fits.{has_slot, is_kept_in_value, has_absent, held, JoinsAsRead}
use Rattle.blk_deps.specs.Ground.{has_bit}
use Rattle.blk_deps.specs.declared.layout.Layout.{Layout}
use Rattle.blk_deps.specs.declared.fact.Provenance.TheVariants.{EntryOf, Old, Undefined, Outside}
use Rattle.blk_deps.specs.declared.fact.Property.{Property}
use Rattle.blk_deps.specs.declared.fact.Property.TheVariants.{NotEntryOf, ComesFrom, Pair}
use Rattle.blk_deps.specs.declared.fact.Fact.TheVariants.{Here, Has, Overwrites}
use Rattle.blk_deps.proofs.SlotLemmas.{slot_cases}
use Rattle.blk_deps.proofs.PropertyLemmas.{slot_within, absent_bits}
use Rattle.blk_deps.proofs.FactLemmas.{shown_of_cell, no_overwriter}

pub or_self : (b : Bool) → b ≡ (b || b)
or_self true = refl
or_self false = refl

or_brackets : (a b c : Bool) → ((a || b) || c) ≡ (a || (b || c))
or_brackets true b c = refl
or_brackets false b c = refl

pub some_slot : (o : Option ℕ) → is_some o ≡ true → (x : ℕ) × (o ≡ Some x)
some_slot None e = absurd (false≢true e)
some_slot (Some x) e = (x, refl)

-- ---- a cell as it is read

-- the pairs that a read adds
abbrev pub is_added : Facts → ℕ → Property → Bool
is_added s u (Pair d p) = p == place_of u && s (Overwrites d u)
is_added s u property = false

pub as_read_of_byte : (s : Facts) (u : ℕ) (property : Property) → is_byte u ≡ true → has_as_read s u property ≡ (s (Has u property) || is_added s u property)
as_read_of_byte s u (NotEntryOf e) byte = sym (or-false (s (Has u (NotEntryOf e))))
as_read_of_byte s u (ComesFrom x) byte = sym (or-false (s (Has u (ComesFrom x))))
as_read_of_byte s u (Pair d p) byte = rw byte refl

pub as_read_of_other : (s : Facts) (u : ℕ) (property : Property) → is_byte u ≡ false → has_as_read s u property ≡ s (Has u property)
as_read_of_other s u (NotEntryOf e) other = refl
as_read_of_other s u (ComesFrom x) other = refl
as_read_of_other s u (Pair d p) other = rw other (or-false (s (Has u (Pair d p))))

module _ (l : Layout) (row : List ℕ) (u : ℕ) (is : IsLayout l) (fits : length row ≡ row_words l) (there : has_slot l u ≡ true) where
  abbrev facts : Facts
  facts = shown l row

  -- what the cell has of what isn't there
  pub absent_of_cell : (property : Property) → is_kept_in_value l property ≡ false → facts (Has u property) ≡ has_absent (facts Here) property
  absent_of_cell property gone =
      let x = some_slot (slot l u) there in
      shown_of_cell l row u x.0 property is x.1
      ∙ absent_bits l (block_at l x.0) row property (omega (arith, fits)) gone

  module _ (value old joined : List ℕ) (is_value : (property : Property) → held l (facts Here) value property ≡ facts (Has u property))
      (bits : (n : ℕ) → facts_in joined n ≡ (facts_in old n || facts_in value n)) where
    pub joined_held : (property : Property) → held l (facts Here) joined property ≡ (held l (facts Here) old property || facts (Has u property))
    joined_held property = joined_by (is_kept_in_value l property) refl
      where
        joined_by : (t : Bool) → is_kept_in_value l property ≡ t
            → held l (facts Here) joined property ≡ (held l (facts Here) old property || facts (Has u property))
        joined_by true kept =
            subst (λ b. held l (facts Here) joined property ≡ (held l (facts Here) old property || b)) (is_value property)
            (rw kept (bits (property_bit l 0 property)))
        joined_by false gone =
            subst (λ b. held l (facts Here) joined property ≡ (held l (facts Here) old property || b)) (sym (absent_of_cell property gone))
            (rw gone (or_self (has_absent (facts Here) property)))

  module _ (byte : is_byte u ≡ true) (joined new : List ℕ) (added : ℕ)
      (are_overwriters : (d : ℕ) → d < 64 → has_bit added d ≡ facts (Overwrites d u))
      (bits : (n : ℕ) → facts_in new n ≡ (facts_in joined n || (n / 64 == 2 * cell_words l + 1 + u / 4 && has_bit added (n % 64)))) where
    other_word : (n : ℕ) → n < 64 * (2 * cell_words l + 1) → facts_in new n ≡ (facts_in joined n || false)
    other_word n lt = bits n ∙ ap (λ b. facts_in joined n || (b && has_bit added (n % 64))) (ne_eqb (n / 64) (2 * cell_words l + 1 + u / 4) (λ e. omega arith))

    pair_word : (d p : ℕ) → d < 64
        → facts_in new (64 * (0 + 2 * cell_words l + 1 + p) + d)
        ≡ (facts_in joined (64 * (0 + 2 * cell_words l + 1 + p) + d) || (p == u / 4 && facts (Overwrites d u)))
    pair_word d p lt =
        let bit : (64 * (0 + 2 * cell_words l + 1 + p) + d) % 64 ≡ d = omega arith in
        bits (64 * (0 + 2 * cell_words l + 1 + p) + d)
        ∙ ap (λ b. facts_in joined (64 * (0 + 2 * cell_words l + 1 + p) + d) || (b && has_bit added ((64 * (0 + 2 * cell_words l + 1 + p) + d) % 64))) same_place
        ∙ ap (λ b. facts_in joined (64 * (0 + 2 * cell_words l + 1 + p) + d) || (p == u / 4 && b)) (ap (has_bit added) bit ∙ are_overwriters d lt)
      where
        same_place : ((64 * (0 + 2 * cell_words l + 1 + p) + d) / 64 == 2 * cell_words l + 1 + u / 4) ≡ (p == u / 4)
        same_place = elim (cases_eq p (u / 4)) [
          | inl same ↦ eq-eqb _ _ (omega (arith, same, lt)) ∙ sym (eq-eqb p (u / 4) same)
          | inr differ ↦ ne_eqb _ _ (λ e. differ (omega (arith, e, lt))) ∙ sym (ne_eqb p (u / 4) differ)
        ]

    place_within : u / 4 < places_in l
    place_within =
        let x = some_slot (slot l u) there in
        elim (slot_cases l u x.0 is x.1) [
          | inl lies ↦ omega (arith, lies)
          | inr other ↦ let lt = ltb-true u 148 byte in omega (arith, other, lt)
        ]

    pub with_pairs : (property : Property) (t : Bool) → is_kept_in_value l property ≡ t
        → held l (facts Here) new property ≡ (held l (facts Here) joined property || is_added facts u property)
    with_pairs (NotEntryOf e) true kept = rw kept (other_word _ (slot_within l e 0 (2 * cell_words l + 1) 0 (slot l e) is refl kept (omega arith)))
    with_pairs (ComesFrom (EntryOf e)) true kept =
        rw kept (other_word _ (slot_within l e (0 + cell_words l) (2 * cell_words l + 1) (no_bit l) (slot l e) is refl kept (omega arith)))
    with_pairs (ComesFrom (Old k)) true kept =
        let lt = ltb-true k l.operands kept in rw kept (other_word (64 * (0 + 2 * cell_words l) + k) (omega (arith, lt, is.operands)))
    with_pairs (ComesFrom Undefined) true kept = other_word (64 * (0 + 2 * cell_words l) + 62) (omega arith)
    with_pairs (ComesFrom Outside) true kept = other_word (64 * (0 + 2 * cell_words l) + 63) (omega arith)
    with_pairs (Pair d p) true kept =
        let parts = and_parts (nat_lt d (places_in l)) (nat_lt p (places_in l)) kept in
        let lt = ltb-true d (places_in l) parts.0 in
        rw kept (pair_word d p (omega (arith, lt, is.operands)))
    with_pairs (NotEntryOf e) false gone = rw gone (sym (or-false (facts Here)))
    with_pairs (ComesFrom (EntryOf e)) false gone = rw gone refl
    with_pairs (ComesFrom (Old k)) false gone = rw gone refl
    with_pairs (ComesFrom Undefined) false gone = absurd (true≢false gone)
    with_pairs (ComesFrom Outside) false gone = absurd (true≢false gone)
    with_pairs (Pair d p) false gone = rw gone (sym (none_added (cases_eq p (u / 4)) (cases_lt d (places_in l))))
      where
        none_added : (p ≡ u / 4) ⊎ (p ≡ u / 4 → ⊥) → (d < places_in l) ⊎ (places_in l ≤ d) → (p == u / 4 && facts (Overwrites d u)) ≡ false
        none_added (inr differ) which = ap (λ b. b && facts (Overwrites d u)) (ne_eqb p (u / 4) differ)
        none_added (inl same) (inl lt) =
            absurd (true≢false (sym (ap (λ b. b && nat_lt p (places_in l)) (lt-ltb d (places_in l) lt)
            ∙ lt-ltb p (places_in l) (omega (arith, same, place_within))) ∙ gone))
        none_added (inl same) (inr le) =
            let x = some_slot (slot l u) there in
            ap (λ b. p == u / 4 && b) (no_overwriter l row d u x.0 (omega (arith, fits)) x.1 le) ∙ and-false (p == u / 4)

  pub joins_other : (value old joined : List ℕ) → is_byte u ≡ false
      → ((property : Property) → held l (facts Here) value property ≡ facts (Has u property))
      → ((n : ℕ) → facts_in joined n ≡ (facts_in old n || facts_in value n)) → JoinsAsRead l facts u old joined
  joins_other value old joined other is_value bits = record {
    each = λ property. joined_held value old joined is_value bits property
        ∙ ap (λ b. held l (facts Here) old property || b) (sym (as_read_of_other facts u property other));
  }

  pub joins_byte : (value old joined new : List ℕ) (added : ℕ) → is_byte u ≡ true
      → ((property : Property) → held l (facts Here) value property ≡ facts (Has u property))
      → ((n : ℕ) → facts_in joined n ≡ (facts_in old n || facts_in value n))
      → ((d : ℕ) → d < 64 → has_bit added d ≡ facts (Overwrites d u))
      → ((n : ℕ) → facts_in new n ≡ (facts_in joined n || (n / 64 == 2 * cell_words l + 1 + u / 4 && has_bit added (n % 64))))
      → JoinsAsRead l facts u old new
  joins_byte value old joined new added byte is_value bits are_overwriters more = record {
    each = λ property. with_pairs byte joined new added are_overwriters more property _ refl
        ∙ ap (λ b. b || is_added facts u property) (joined_held value old joined is_value bits property)
        ∙ or_brackets (held l (facts Here) old property) (facts (Has u property)) (is_added facts u property)
        ∙ ap (λ b. held l (facts Here) old property || b) (sym (as_read_of_byte facts u property byte));
  }
