-- Where an instruction breaks no rule, no place overwrites the address of a memory operand that it accesses.
use Rattle.std.proofs.Common.{◌≡◌, inl, inr, ℕ, suc, ◌+◌, ◌-◌, ◌<◌, ◌==◌, ◌&&◌, true, false, List, [], ◌∷◌, ◌++◌, map, length, Some, slice_get, refl, sym, ap, subst, ◌∙◌, arith, length-append}
use Rattle.std.specs.List.{list_any, range_with_len}
use Rattle.std.proofs.lemmas.Bool.{both_ways, and_from, or_right, false_from_ne_true, lt-ltb, le-leb, eq-eqb}
use Rattle.std.proofs.lemmas.List.FromFn.{length-map-range_with_len}
use Rattle.asm_core.specs.Lists.{IsMember}
use Rattle.asm_core.specs.WellFormed.{IsInterface}
use Rattle.asm_core.specs.declared.sym.Arg.{Arg}
use Rattle.asm_core.specs.declared.sym.Sym.{Sym}
use Rattle.asm_core.specs.declared.row.Write.{Write}
use Rattle.asm_core.specs.declared.row.Access.{Access}
use Rattle.asm_core.specs.declared.shape.Shape.{Shape}
use Rattle.asm_core.specs.declared.interface.Interface.{Interface}
use Rattle.asm_core.specs.declared.finding.Rule.{Rule}
use Rattle.blk_deps.specs.Cells.{is_hand, hand_cell, place_cells, byte_cell, place_of, is_byte}
use Rattle.blk_deps.specs.Facts.{Facts, has_as_read, has_from, has_read, in_hand, after_reads}
use Rattle.blk_deps.specs.Operands.{is_place, name_of}
use Rattle.blk_deps.specs.Line.{writes_in, accesses_in, all_names, uses_in, address_cells, access_cells, reads_from, read_for, line_reads, stored_from, hand_count, used_hands}
use Rattle.blk_deps.specs.Rules.{all_places, same_cell, places_named, used_at_line, breaks_u3, breaks_by_access, breaks_at_line}
use Rattle.blk_deps.specs.declared.fact.Property.TheVariants.{Pair}
use Rattle.blk_deps.specs.declared.fact.Fact.TheVariants.{Here, Has, Overwrites}
use Rattle.blk_deps.specs.declared.step.Name.{Name}
use Rattle.blk_deps.specs.declared.step.Read.{Read}
use Rattle.blk_frame.specs.Accepted.{PassesSound}
use Rattle.blk_frame.proofs.ByteWrites.{cell_place}
use Rattle.blk_frame.proofs.Members.{any_in, in_back, in_filter, in_map, in_flat, in_range}
use Rattle.blk_frame.proofs.Names.{same_name, name_listed}
use Rattle.blk_frame.proofs.Places.{place_small}
use Rattle.blk_frame.proofs.EndRules.{byte_of_place, listed_pair}

-- ---- the hand of addresses

second_last : (xs : List Read) (a b : Read) (n : ℕ) → length xs ≡ n → slice_get (xs ++ a ∷ b ∷ []) (n + 1) ≡ Some b
second_last [] a b n is = ap (λ k. slice_get (a ∷ b ∷ []) k) (one n is)
  where
    one : (n : ℕ) → 0 ≡ n → n + 1 ≡ 1
    one n is = omega (arith, is)
second_last (x ∷ xs) a b n is = ap (slice_get (x ∷ xs ++ a ∷ b ∷ [])) (more n is) ∙ second_last xs a b (length xs) refl
  where
    more : (n : ℕ) → suc (length xs) ≡ n → n + 1 ≡ suc (length xs + 1)
    more n is = omega (arith, is)

reads_counted : (i : Interface) (s : Shape) (depth : ℕ) (line : Sym) (k : ℕ) (ws : List Write)
    → length (reads_from i s depth line k ws) ≡ hand_count ws
reads_counted i s depth line k [] = refl
reads_counted i s depth line k (w ∷ ws) =
    length-append (map (read_for i s depth line k w.by) (range_with_len 0 w.count))
    (reads_from i s depth line (k + 1) ws)
    ∙ ap (λ n. n + length (reads_from i s depth line (k + 1) ws))
    (length-map-range_with_len (read_for i s depth line k w.by) 0 w.count)
    ∙ ap (λ n. w.count + n) (reads_counted i s depth line (k + 1) ws)

module _ (i : Interface) (live : List Shape) (s : Shape) (depth : ℕ) (line : Sym) (facts : Facts)
    (sound : PassesSound i live s depth line facts) where
  abbrev hand : ℕ
  hand = hand_count (writes_in line) + 1

  addresses_read : slice_get (line_reads i s depth line) hand ≡ Some
      (Read.Compute (map Name.Cell (access_cells i s (accesses_in line))))
  addresses_read = second_last (reads_from i s depth line 0 (writes_in line))
      (Read.Compute (all_names i s depth line (uses_in line)))
      (Read.Compute (map Name.Cell (access_cells i s (accesses_in line)))) (hand_count (writes_in line))
      (reads_counted i s depth line 0 (writes_in line))

  -- what the addresses are read from counts as used
  used_pair : (c d q : ℕ) → IsMember c (access_cells i s (accesses_in line)) → has_as_read facts c (Pair d q) ≡ true
      → used_at_line i s depth line facts (Pair d q) ≡ true
  used_pair c d q member has = any_in (λ h. after_reads (line_reads i s depth line) facts
      (Has (hand_cell h) (Pair d q))) (used_hands line) hand
      (in_back (stored_from 0 (writes_in line)) (hand_count (writes_in line) ∷ hand ∷ []) hand
      (inr (inl refl))) in_reads
    where
      there : is_hand (hand_cell hand) ≡ true
      there = le-leb 218 (hand_cell hand) (omega arith)

      same : hand_cell hand - 218 ≡ hand
      same = omega arith

      computed : has_read facts (Read.Compute (map Name.Cell (access_cells i s (accesses_in line)))) (Pair d q) ≡ true
      computed = any_in (λ name. has_from facts name (Pair d q)) (map Name.Cell (access_cells i s (accesses_in line)))
          (Name.Cell c) (in_map Name.Cell (access_cells i s (accesses_in line)) c member) has

      in_reads : after_reads (line_reads i s depth line) facts (Has (hand_cell hand) (Pair d q)) ≡ true
      in_reads = rw there (ap (λ n. in_hand facts (slice_get (line_reads i s depth line) n) (Pair d q)) same
          ∙ ap (λ r. in_hand facts r (Pair d q)) addresses_read ∙ computed)

  module _ (interface : IsInterface i) (a : Access) (k : ℕ) (accessed : IsMember a (accesses_in line))
      (is : a.to ≡ Arg.Memory k) (there : is_place i s (7 + k) ≡ true) where
    in_access : (b : ℕ) → b < 4 → IsMember (byte_cell (7 + k) b) (access_cells i s (accesses_in line))
    in_access b lt = in_flat (λ (e : Access). address_cells i s e.to) (accesses_in line) a
        (byte_cell (7 + k) b) accessed
        (subst (λ to. IsMember (byte_cell (7 + k) b) (address_cells i s to)) (sym is)
        (subst (IsMember (byte_cell (7 + k) b)) (sym cells) (byte_of_place (7 + k) b lt)))
      where
        cells : address_cells i s (Arg.Memory k) ≡ place_cells (7 + k)
        cells = rw there refl

    pub not_overwritten : (b d : ℕ) → b < 4 → d < 37 → is_place i s d ≡ true
        → facts (Overwrites d (byte_cell (7 + k) b)) ≡ false
    not_overwritten b d blt dlt there_d = false_from_ne_true (facts (Overwrites d (byte_cell (7 + k) b))) broken
      where
        small : 7 + k < 37
        small = place_small i s (7 + k) interface there

        named : (e : ℕ) → e < 37 → IsMember e (places_named i s (name_of i s e))
        named e lt = in_filter (λ p. same_cell (name_of i s p) (name_of i s e)) all_places e (in_range 37 e lt)
            (same_name (name_of i s e))

        read : facts (Overwrites d (byte_cell (7 + k) b)) ≡ true
            → has_as_read facts (byte_cell (7 + k) b) (Pair d (7 + k)) ≡ true
        read over = or_right (facts (Has (byte_cell (7 + k) b) (Pair d (7 + k))))
            ((is_byte (byte_cell (7 + k) b) && 7 + k == place_of (byte_cell (7 + k) b)) && facts
            (Overwrites d (byte_cell (7 + k) b)))
            (and_from (is_byte (byte_cell (7 + k) b) && 7 + k == place_of (byte_cell (7 + k) b)) _
            (and_from (is_byte (byte_cell (7 + k) b)) _
            (lt-ltb (byte_cell (7 + k) b) 148 (omega (arith, small, blt)))
            (eq-eqb (7 + k) (place_of (byte_cell (7 + k) b)) (sym (cell_place (7 + k) b blt)))) over)

        broken : facts (Overwrites d (byte_cell (7 + k) b)) ≡ true → ⊥
        broken over =
            let used = used_pair (byte_cell (7 + k) b) d (7 + k) (in_access b blt) (read over) in
            let at : breaks_u3 i s (name_of i s d) (name_of i s (7 + k)) (used_at_line i s depth line facts) ≡ true =
            any_in (λ e. list_any (λ f. used_at_line i s depth line facts (Pair e f))
            (places_named i s (name_of i s (7 + k)))) (places_named i s (name_of i s d)) d (named d dlt)
            (any_in (λ f. used_at_line i s depth line facts (Pair d f))
            (places_named i s (name_of i s (7 + k))) (7 + k) (named (7 + k) small) used) in
            both_ways (breaks_at_line i live s depth line
            (record { rule = Rule.U3; cell = name_of i s d; other = name_of i s (7 + k) }) facts)
            (sound.each (record { rule = Rule.U3; cell = name_of i s d; other = name_of i s (7 + k) })
            (listed_pair i (name_of i s d) (name_of i s (7 + k)) (name_listed i s d there_d)
            (name_listed i s (7 + k) there)))
            (or_right (breaks_by_access i live depth line Rule.U3 (name_of i s d) && facts Here)
            (breaks_u3 i s (name_of i s d) (name_of i s (7 + k)) (used_at_line i s depth line facts)) at)
