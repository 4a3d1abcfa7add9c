-- What the facts say still holds once a hand's value is put where it belongs.
use Rattle.std.proofs.Common.{◌≡◌, inl, inr, ℕ, ◌==◌, ◌&&◌, Bool, true, false, List, [], ◌∷◌, refl, sym, ap, ◌∙◌}
use Rattle.std.proofs.lemmas.Bool.{both_ways, eq-eqb, ne_eqb, eqb-true, and_parts, and_from, false_from_ne_true, cases_eq}
use Rattle.blk_deps.specs.Cells.{is_byte, place_of, byte_of, hand_cell}
use Rattle.blk_deps.specs.Facts as facts
use Rattle.blk_deps.specs.Facts.{Facts, is_paired, is_overwriting, overwrites_after}
use Rattle.blk_deps.specs.declared.fact.Property.TheVariants.{NotEntryOf}
use Rattle.blk_deps.specs.declared.fact.Fact.TheVariants.{Has, Overwrites}
use Rattle.blk_deps.specs.declared.step.Put.{Put}
use Rattle.blk_frame.specs.World.{Placed, ArePlaced, World, is_register_byte, is_address_byte, in_register_byte, after_put, after_puts, IsWritable, AreWritable}
use Rattle.blk_frame.specs.Matches.{IsGood, IsIntact, IsIntactAt, IsShadowed, Matches}
use Rattle.blk_frame.proofs.Basics.{by_truth, either_false, none_paired, place_below, byte_placed}

-- ---- what a write says of the cells beside it

module _ (x : Placed) (shares : ℕ → ℕ → Bool) (s : Facts) (u hand : ℕ) where
  -- a cell that isn't overwritten though it has the written byte: the write puts back the entry's value, and the
  -- cell has its own
  pub record IsRestored (c : ℕ) : Type 0 where
    pub hand_own : s (Has (hand_cell hand) (NotEntryOf u)) ≡ false
    pub hand_good : IsGood x s (hand_cell hand)
    pub cell_own : s (Has c (NotEntryOf c)) ≡ false
    pub cell_good : IsGood x s c

  restored : (c : ℕ) → is_overwriting s u hand c ≡ false → IsRestored c
  restored c none =
      let parts = either_false _ _ none in
      let first = either_false _ _ parts.0 in
      let second = either_false _ _ parts.1 in
      record {
        hand_own = first.0;
        hand_good = λ d p dlt plt has. absurd (none_paired s (hand_cell hand) d p dlt plt first.1 has);
        cell_own = second.0;
        cell_good = λ d p dlt plt has. absurd (none_paired s c d p dlt plt second.1 has);
      }

  pub not_overwritten : (c : ℕ) → (c ≡ u → ⊥) → is_byte c ≡ true → byte_of c ≡ byte_of u
      → shares (place_of u) (place_of c) ≡ true
      → overwrites_after shares s u hand (place_of u) c ≡ false → IsRestored c
  not_overwritten c other byte same told none = restored c (after_it none)
    where
      after_it : overwrites_after shares s u hand (place_of u) c ≡ false → is_overwriting s u hand c ≡ false
      after_it h = rw (
        ne_eqb c u other,
        eq-eqb (place_of u) (place_of u) refl,
        eq-eqb (byte_of c)
            (byte_of u) same,
        byte,
        told,
      ) at h

  -- elsewhere the overwriters stay
  pub overwrites_kept : (d c : ℕ) → (c ≡ u → ⊥) → ((d ≡ place_of u) → byte_of c ≡ byte_of u → ⊥)
      → overwrites_after shares s u hand d c ≡ s (Overwrites d c)
  overwrites_kept d c other apart = rw (ne_eqb c u other, missed) refl
    where
      missed : (d == place_of u && byte_of c == byte_of u) ≡ false
      missed = false_from_ne_true _ (λ h. let parts = and_parts _ _ h in apart (eqb-true _ _ parts.0)
          (eqb-true _ _ parts.1))

  pub none_at_itself : (d : ℕ) → overwrites_after shares s u hand d u ≡ false
  none_at_itself d = rw (eq-eqb u u refl) refl

-- ---- a byte of a register

module _ (x : Placed) (shares : ℕ → ℕ → Bool) (placed : ArePlaced x shares) (entry : World)
    (shadowed : IsShadowed x entry) (s : Facts) (w : World)
    (matches : Matches x entry s w) (u hand : ℕ) (is : is_register_byte x u ≡ true) where
  abbrev r : ℕ
  r = x.register_of (place_of u)

  abbrev v : ℕ
  v = w.cells (hand_cell hand)

  abbrev t : Facts
  t = facts.after_put shares (Put.Place u hand) s

  abbrev put : World
  put = after_put x (Put.Place u hand) w

  placed_there : x.in_register (place_of u) ≡ true
  placed_there = (and_parts _ _ is).1

  -- what is put back where the cell beside it keeps its own
  entry_value : (c : ℕ) → IsRestored x shares s u hand c → v ≡ in_register_byte x u entry
  entry_value c back = matches.copies (hand_cell hand) u back.hand_good back.hand_own ∙ shadowed.each u is

  -- a byte that isn't the written one
  missed : (q n c : ℕ) → byte_of c ≡ n → ((q == r && n == byte_of u) ≡ false) → put.registers q n ≡ w.registers q n
  missed q n c e h = rw h refl

  hit : (q n : ℕ) → (q == r && n == byte_of u) ≡ true → put.registers q n ≡ v
  hit q n h = rw h refl

  put_cell : (c : ℕ) → (c ≡ u → ⊥) → put.cells c ≡ w.cells c
  put_cell c other = rw (ne_eqb c u other) refl

  put_itself : put.cells u ≡ v
  put_itself = rw (eq-eqb u u refl) refl

  -- ---- cells in registers

  module _ (c : ℕ) (in_register : is_register_byte x c ≡ true) (intact : IsIntact x t c) (other : c ≡ u → ⊥) where
    c_byte : is_byte c ≡ true
    c_byte = (and_parts _ _ in_register).0

    beside_kept : (x.register_of (place_of c) == r && byte_of c == byte_of u) ≡ true
        → in_register_byte x c put ≡ put.cells c
    beside_kept h =
        let parts = and_parts _ _ h in
        let same_register = eqb-true _ _ parts.0 in
        let same_byte = eqb-true _ _ parts.1 in
        let meets : x.has (place_of c) r ≡ true = ap (x.has (place_of c)) (sym same_register)
        ∙ placed.itself (place_of c) (and_parts _ _ in_register).1 in
        let none : overwrites_after shares s u hand (place_of u) c ≡ false = false_from_ne_true _
        (λ over. both_ways _ (intact (place_of u) (place_below u (and_parts _ _ is).0) over) meets) in
        let back = not_overwritten x shares s u hand c other c_byte same_byte
        (placed.told (place_of u) (place_of c) placed_there meets) none in
        let same_entry : in_register_byte x u entry ≡ in_register_byte x c entry = ap
        (λ q. entry.registers q (byte_of u)) (sym same_register)
        ∙ ap (entry.registers (x.register_of (place_of c))) (sym same_byte) in
        hit _ _ h ∙ entry_value c back ∙ same_entry ∙ sym (shadowed.each c in_register)
        ∙ sym (matches.copies c c back.cell_good back.cell_own) ∙ sym (put_cell c other)

    elsewhere_kept : (x.register_of (place_of c) == r && byte_of c == byte_of u) ≡ false
        → in_register_byte x c put ≡ put.cells c
    elsewhere_kept h = missed _ _ c refl h ∙ matches.intact c in_register before ∙ sym (put_cell c other)
      where
        apart : byte_of c ≡ byte_of u → x.has (place_of c) r ≡ false
        apart same = false_from_ne_true _
            (λ meets. both_ways (x.register_of (place_of c) == r && byte_of c == byte_of u) h
            (and_from _ _ (eq-eqb _ _ (sym (placed.alone (place_of c) r (byte_placed x c in_register) meets)))
            (eq-eqb _ _ same)))

        before : IsIntact x s c
        before d dlt over = by_truth (d == place_of u && byte_of c == byte_of u)
            (λ at. let parts = and_parts _ _ at in ap (λ e. x.has (place_of c) (x.register_of e))
            (eqb-true _ _ parts.0) ∙ apart (eqb-true _ _ parts.1))
            (λ not_at. intact d dlt (overwrites_kept x shares s u hand d c other
            (λ e f. both_ways _ not_at (and_from _ _ (eq-eqb _ _ e) (eq-eqb _ _ f))) ∙ over))

  byte_intact : (c : ℕ) → is_register_byte x c ≡ true → IsIntact x t c → in_register_byte x c put ≡ put.cells c
  byte_intact c in_register intact = elim (cases_eq c u) [
    | inl same ↦ rw same (hit _ _ (and_from _ _ (eq-eqb r r refl) (eq-eqb (byte_of u) (byte_of u) refl))
        ∙ sym put_itself)
    | inr other ↦ by_truth _ (beside_kept c in_register intact other) (elsewhere_kept c in_register intact other)
  ]

  -- ---- values

  byte_copies : (c e : ℕ) → IsGood x t c → t (Has c (NotEntryOf e)) ≡ false → put.cells c ≡ entry.cells e
  byte_copies c e good none = by_truth (c == u)
      (λ same. rw same (matches.copies (hand_cell hand) e (rw same at good) (rw same at none)))
      (λ other. rw other (matches.copies c e (rw other at good) (rw other at none)))

  -- ---- addresses

  module _ (c q : ℕ) (is_address : is_address_byte x c ≡ true) (has : x.has (place_of c) q ≡ true)
      (intact : IsIntactAt x t c q) where
    no_register : c ≡ u → ⊥
    no_register same = both_ways _ (placed.apart (place_of u) placed_there)
        (ap (λ e. x.is_address (place_of e)) (sym same) ∙ (and_parts _ _ is_address).1)

    address_hit : (q == r && byte_of c == byte_of u) ≡ true
        → put.registers q (byte_of c) ≡ entry.registers q (byte_of c)
    address_hit h =
        let parts = and_parts _ _ h in
        let same_register = eqb-true _ _ parts.0 in
        let same_byte = eqb-true _ _ parts.1 in
        let none : overwrites_after shares s u hand (place_of u) c ≡ false = false_from_ne_true _
        (λ over. intact (place_of u) (place_below u (and_parts _ _ is).0) over (sym same_register)) in
        let meets : x.has (place_of c) r ≡ true = ap (x.has (place_of c)) (sym same_register) ∙ has in
        let back = not_overwritten x shares s u hand c no_register (and_parts _ _ is_address).0 same_byte
        (placed.told (place_of u) (place_of c) placed_there meets) none in
        hit _ _ h ∙ entry_value c back ∙ ap (λ p. entry.registers p (byte_of u)) (sym same_register)
        ∙ ap (entry.registers q) (sym same_byte)

    address_missed : (q == r && byte_of c == byte_of u) ≡ false
        → put.registers q (byte_of c) ≡ entry.registers q (byte_of c)
    address_missed h = missed _ _ c refl h ∙ matches.addresses c q is_address has before
      where
        before : IsIntactAt x s c q
        before d dlt over same = intact d dlt (overwrites_kept x shares s u hand d c no_register
            (λ e f. both_ways _ h (and_from _ _ (eq-eqb _ _ (sym same ∙ ap x.register_of e)) (eq-eqb _ _ f)))
            ∙ over) same

  pub byte_matches : Matches x entry t put
  byte_matches = record {
    here = matches.here;
    intact = byte_intact;
    copies = byte_copies;
    addresses = λ c q is_address has intact. by_truth _ (address_hit c q is_address has intact)
        (address_missed c q is_address has intact);
  }

-- ---- a flag or a byte of a pushed word

module _ (x : Placed) (shares : ℕ → ℕ → Bool) (entry : World) (s : Facts) (w : World) (matches : Matches x entry s w)
    (u hand : ℕ) (no_byte : is_byte u ≡ false) where
  byte_other : (c : ℕ) → is_byte c ≡ true → c ≡ u → ⊥
  byte_other c byte same = both_ways _ no_byte (ap is_byte (sym same) ∙ byte)

  pub plain_matches : Matches x entry (facts.after_put shares (Put.Plain u hand) s) (after_put x (Put.Plain u hand) w)
  plain_matches = record {
    here = matches.here;
    intact = λ c is intact. rw (ne_eqb c u (byte_other c (and_parts _ _ is).0)) (matches.intact c is intact);
    copies = copies;
    addresses = matches.addresses;
  } where
    copies : (c e : ℕ) → IsGood x (facts.after_put shares (Put.Plain u hand) s) c
        → facts.after_put shares (Put.Plain u hand) s (Has c (NotEntryOf e)) ≡ false
        → (after_put x (Put.Plain u hand) w).cells c ≡ entry.cells e
    copies c e good none = by_truth (c == u)
        (λ same. rw same (matches.copies (hand_cell hand) e (rw same at good) (rw same at none)))
        (λ other. rw other (matches.copies c e (rw other at good) (rw other at none)))

-- ---- all writes of an instruction

module _ (x : Placed) (shares : ℕ → ℕ → Bool) (placed : ArePlaced x shares) (entry : World)
    (shadowed : IsShadowed x entry) where
  pub put_matches : (put : Put) (s : Facts) (w : World) → IsWritable x put → Matches x entry s w
      → Matches x entry (facts.after_put shares put s) (after_put x put w)
  put_matches (Put.Place u hand) s w is matches = byte_matches x shares placed entry shadowed s w matches u hand is
  put_matches (Put.Plain u hand) s w is matches = plain_matches x shares entry s w matches u hand is.0
  put_matches (Put.Store operand first count) s w is matches = record
      { here = matches.here; intact = matches.intact; copies = matches.copies; addresses = matches.addresses }
  put_matches (Put.Direction on) s w is matches = record
      { here = matches.here; intact = matches.intact; copies = matches.copies; addresses = matches.addresses }

  pub puts_match : (puts : List Put) (s : Facts) (w : World) → AreWritable x puts → Matches x entry s w
      → Matches x entry (facts.after_puts shares puts s) (after_puts x puts w)
  puts_match [] s w are matches = matches
  puts_match (put ∷ puts) s w are matches = puts_match puts _ _ are.1 (put_matches put s w are.0 matches)
