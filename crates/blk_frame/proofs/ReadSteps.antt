-- What the facts say still holds once values are read into hands, and once hands are forgotten.
use Rattle.std.proofs.Common.{◌≡◌, ℕ, ◌-◌, ◌<◌, true, false, List, Option, None, Some, slice_get, refl, ◌∙◌}
use Rattle.std.proofs.lemmas.Bool.{both_ways, eq-eqb, and_parts, and_from, or_left, or_right}
use Rattle.blk_deps.specs.Cells.{is_byte, is_hand, place_of}
use Rattle.blk_deps.specs.Facts.{Facts, has_as_read, in_hand, after_reads}
use Rattle.blk_deps.specs.declared.fact.Property.{Property}
use Rattle.blk_deps.specs.declared.fact.Property.TheVariants.{NotEntryOf, Pair}
use Rattle.blk_deps.specs.declared.fact.Fact.{Fact}
use Rattle.blk_deps.specs.declared.fact.Fact.TheVariants.{Here, Has, Overwrites}
use Rattle.blk_deps.specs.declared.step.Read.{Read}
use Rattle.blk_frame.specs.World.{Placed, World, is_register_byte, in_register_byte, value_in, with_hands, IsCopied, AreCopied}
use Rattle.blk_frame.specs.Matches.{IsGood, IsIntact, Matches}
use Rattle.blk_frame.proofs.Basics.{by_truth, place_below, byte_no_hand}

-- What holds of facts holds of more.
module _ (x : Placed) (entry : World) (s t : Facts) (w : World) where
  pub fewer_cells : ((c : ℕ) (property : Property) → s (Has c property) ≡ true → t (Has c property) ≡ true)
      → ((d c : ℕ) → s (Overwrites d c) ≡ true → t (Overwrites d c) ≡ true) → t Here ≡ true → Matches x entry s w
      → Matches x entry t w
  fewer_cells more_has more_over here m = record {
    here = here;
    intact = λ c is intact. m.intact c is (λ d lt over. intact d lt (more_over d c over));
    copies = λ c e good none. m.copies c e (λ d u dlt ult has. good d u dlt ult (more_has c (Pair d u) has))
        (by_truth (s (Has c (NotEntryOf e))) (λ has. absurd (both_ways _ none (more_has c (NotEntryOf e) has)))
        (λ is. is));
    addresses = λ c q is has intact. m.addresses c q is has (λ d lt over. intact d lt (more_over d c over));
  }

  pub fewer_matches : ((f : Fact) → s f ≡ true → t f ≡ true) → s Here ≡ true → Matches x entry s w → Matches x entry t w
  fewer_matches more here = fewer_cells (λ c property. more (Has c property)) (λ d c. more (Overwrites d c))
      (more Here here)

module _ (x : Placed) (entry : World) (s : Facts) (w : World) (matches : Matches x entry s w) where
  -- a cell as it is read: its pairs with what overwrites it are good where it is intact
  read_value : (u e : ℕ) → ((d p : ℕ) → d < 37 → p < 37 → has_as_read s u (Pair d p) ≡ true
      → x.has p (x.register_of d) ≡ false)
      → s (Has u (NotEntryOf e)) ≡ false → value_in x u w ≡ entry.cells e
  read_value u e good none = by_truth (is_register_byte x u) in_register elsewhere
    where
      own : IsGood x s u
      own d p dlt plt has = good d p dlt plt (or_left _ _ has)

      copied : w.cells u ≡ entry.cells e
      copied = matches.copies u e own none

      intact : is_byte u ≡ true → IsIntact x s u
      intact byte d dlt over = good d (place_of u) dlt (place_below u byte)
          (or_right _ _ (and_from _ _ (and_from _ _ byte (eq-eqb _ _ refl)) over))

      in_register : is_register_byte x u ≡ true → value_in x u w ≡ entry.cells e
      in_register is = rw is (matches.intact u is (intact (and_parts _ _ is).0) ∙ copied)

      elsewhere : is_register_byte x u ≡ false → value_in x u w ≡ entry.cells e
      elsewhere is = rw is copied

  hand_value : (read : Option Read) (v e : ℕ) → ((r : Read) → read ≡ Some r → IsCopied x w r v)
      → ((d p : ℕ) → d < 37 → p < 37 → in_hand s read (Pair d p) ≡ true → x.has p (x.register_of d) ≡ false)
      → in_hand s read (NotEntryOf e) ≡ false → v ≡ entry.cells e
  hand_value None v e copied good none = absurd (both_ways _ none matches.here)
  hand_value (Some (Read.Copy u)) v e copied good none = copied (Read.Copy u) refl ∙ read_value u e good none
  hand_value (Some (Read.Compute of)) v e copied good none = absurd (both_ways _ none matches.here)

  pub reads_match : (reads : List Read) (given : ℕ → ℕ) → AreCopied x w reads given
      → Matches x entry (after_reads reads s) (with_hands given w)
  reads_match reads given copied = record
      { here = matches.here; intact = intact; copies = copies; addresses = matches.addresses }
    where
      intact : (c : ℕ) → is_register_byte x c ≡ true → IsIntact x (after_reads reads s) c
          → in_register_byte x c w ≡ (with_hands given w).cells c
      intact c is sound = rw (byte_no_hand c (and_parts _ _ is).0) (matches.intact c is sound)

      copies : (c e : ℕ) → IsGood x (after_reads reads s) c → after_reads reads s (Has c (NotEntryOf e)) ≡ false
          → (with_hands given w).cells c ≡ entry.cells e
      copies c e good none = by_truth (is_hand c)
          (λ hand. rw hand (hand_value (slice_get reads (c - 218)) (given (c - 218)) e (copied.each (c - 218))
          (rw hand at good) (rw hand at none)))
          (λ other. rw other (matches.copies c e (rw other at good) (rw other at none)))
