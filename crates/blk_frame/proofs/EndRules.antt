-- Where the end breaks no rule, the cells of each place that has to be kept have their own values of the entry.
use Rattle.std.proofs.Common.{◌≡◌, inl, inr, ℕ, zero, suc, ◌<◌, ◌==◌, ◌&&◌, nat_lt, not, Bool, true, false, List, [], ◌∷◌, ◌++◌, map, filter, Option, None, Some, is_some, if◌then◌else◌, refl, ap, ◌∙◌, arith}
use Rattle.std.specs.List.{list_any, flat_map}
use Rattle.std.proofs.lemmas.Bool.{both_ways, and_parts, and_from, or_left, or_right, or_cases, false_from_ne_true, ltb-true, eqb-true, not-true}
use Rattle.asm_core.proofs.MachineLaws.{reg_number_small}
use Rattle.asm_core.specs.Lists.{IsMember}
use Rattle.asm_core.specs.Reg.{reg_number}
use Rattle.asm_core.specs.declared.reg.Reg.{Reg}
use Rattle.asm_core.specs.declared.flag.Flag.{Flag}
use Rattle.asm_core.specs.declared.shape.Shape.{Shape}
use Rattle.asm_core.specs.declared.interface.Interface.{Interface}
use Rattle.asm_core.specs.declared.placement.Placement.{Placement}
use Rattle.asm_core.specs.declared.finding.Rule.{Rule}
use Rattle.asm_core.specs.declared.finding.Cell.{Cell}
use Rattle.blk_deps.specs.Cells.{reg_at, place_at, place_cells, byte_cell}
use Rattle.blk_deps.specs.Facts.{Facts}
use Rattle.blk_deps.specs.Operands.{numbers_in, is_place, is_none_held, holders, is_lone, is_input_place, name_of, is_output_at}
use Rattle.blk_deps.specs.Rules.{registers, all_places, same_cell, is_undeclared, is_kept, kept_cells, used_at_end, places_named, is_changed, breaks_w1, breaks_w2, breaks_u3, breaks_by_end}
use Rattle.blk_deps.specs.Findings.{alone, registers_alone, operands_alone, flags_alone, place_names, pairs_of, violations_of}
use Rattle.blk_deps.specs.declared.violation.Violation.{Violation}
use Rattle.blk_deps.specs.declared.fact.Property.TheVariants.{NotEntryOf, Pair}
use Rattle.blk_deps.specs.declared.fact.Fact.TheVariants.{Has}
use Rattle.blk_frame.specs.World.{Placed}
use Rattle.blk_frame.specs.Matches.{IsGood, IsKept}
use Rattle.blk_frame.specs.Shown.{register_under, number_or, is_numbered, address_under, placed_by}
use Rattle.blk_frame.specs.Accepted.{EndsSound}
use Rattle.blk_frame.proofs.Members.{any_in, in_front, in_back, in_filter, in_map, in_flat, in_range}
use Rattle.blk_frame.proofs.Names.{same_name, held_name, name_listed, register_listed}

-- ---- the list of rules

module _ (i : Interface) where
  -- the rules up to those on flags, up to those on addresses, up to those on pairs
  abbrev to_flags : List Violation
  to_flags = registers_alone Rule.W1 ++ operands_alone Rule.W2 i ++ alone Rule.W3 Cell.Cc ∷ []

  abbrev to_addresses : List Violation
  to_addresses =
      to_flags ++ alone Rule.W4 (Cell.Flag Flag.Df) ∷ [] ++ alone Rule.M1 Cell.Memory ∷ [] ++ operands_alone Rule.M2 i
      ++ registers_alone Rule.R1 ++ flags_alone Rule.R1 ++ operands_alone Rule.R2 i
      ++ operands_alone Rule.R3 i ++ alone Rule.R3 Cell.Nothing ∷ [] ++ operands_alone Rule.U2 i

  abbrev to_pairs : List Violation
  to_pairs = to_addresses ++ pairs_of Rule.U3 (place_names i)

  five : (a b c d e f : List Violation) (v : Violation) → IsMember v a → IsMember v (a ++ b ++ c ++ d ++ e ++ f)
  five a b c d e f v is = in_front (a ++ b ++ c ++ d ++ e) f v
      (in_front (a ++ b ++ c ++ d) e v (in_front (a ++ b ++ c) d v (in_front (a ++ b) c v (in_front a b v is))))

  direction_first : (v : Violation) → IsMember v (to_flags ++ alone Rule.W4 (Cell.Flag Flag.Df) ∷ [])
      → IsMember v to_addresses
  direction_first v is =
      five (to_flags ++ alone Rule.W4 (Cell.Flag Flag.Df) ∷ [] ++ alone Rule.M1 Cell.Memory ∷ [] ++ operands_alone
      Rule.M2 i ++ registers_alone Rule.R1) (flags_alone Rule.R1) (operands_alone Rule.R2 i)
      (operands_alone Rule.R3 i) (alone Rule.R3 Cell.Nothing ∷ []) (operands_alone Rule.U2 i) v
      (in_front (to_flags ++ alone Rule.W4
      (Cell.Flag Flag.Df) ∷ [] ++ alone Rule.M1 Cell.Memory ∷ [] ++ operands_alone Rule.M2 i)
      (registers_alone Rule.R1) v
      (in_front (to_flags ++ alone Rule.W4 (Cell.Flag Flag.Df) ∷ [] ++ alone Rule.M1 Cell.Memory ∷ [])
      (operands_alone Rule.M2 i) v
      (in_front (to_flags ++ alone Rule.W4 (Cell.Flag Flag.Df) ∷ []) (alone Rule.M1 Cell.Memory ∷ []) v is)))

  flags_first : (v : Violation) → IsMember v to_flags → IsMember v to_addresses
  flags_first v is = direction_first v (in_front to_flags (alone Rule.W4 (Cell.Flag Flag.Df) ∷ []) v is)

  among_flags : (v : Violation) → IsMember v to_flags → IsMember v (violations_of i)
  among_flags v is = in_front to_pairs (operands_alone Rule.U4 i) v
      (in_front to_addresses (pairs_of Rule.U3 (place_names i)) v (flags_first v is))

  listed_register : (r : Reg) → IsMember (alone Rule.W1 (Cell.Reg r)) (violations_of i)
  listed_register r = among_flags (alone Rule.W1 (Cell.Reg r))
      (in_front (registers_alone Rule.W1 ++ operands_alone Rule.W2 i) (alone Rule.W3 Cell.Cc ∷ [])
      (alone Rule.W1 (Cell.Reg r))
      (in_front (registers_alone Rule.W1) (operands_alone Rule.W2 i) (alone Rule.W1 (Cell.Reg r))
      (in_map (λ q. alone Rule.W1 (Cell.Reg q)) registers r (register_listed r))))

  listed_operand : (j : ℕ) → IsMember j (numbers_in i) → IsMember (alone Rule.W2 (Cell.Operand j)) (violations_of i)
  listed_operand j is = among_flags (alone Rule.W2 (Cell.Operand j))
      (in_front (registers_alone Rule.W1 ++ operands_alone Rule.W2 i) (alone Rule.W3 Cell.Cc ∷ [])
      (alone Rule.W2 (Cell.Operand j))
      (in_back (registers_alone Rule.W1) (operands_alone Rule.W2 i) (alone Rule.W2 (Cell.Operand j))
      (in_map (λ k. alone Rule.W2 (Cell.Operand k)) (numbers_in i) j is)))

  pub listed_flags : IsMember (alone Rule.W3 Cell.Cc) (violations_of i)
  listed_flags = among_flags (alone Rule.W3 Cell.Cc)
      (in_back (registers_alone Rule.W1 ++ operands_alone Rule.W2 i) (alone Rule.W3 Cell.Cc ∷ [])
      (alone Rule.W3 Cell.Cc) (inl refl))

  pub listed_direction : IsMember (alone Rule.W4 (Cell.Flag Flag.Df)) (violations_of i)
  listed_direction =
      let v = alone Rule.W4 (Cell.Flag Flag.Df) in
      in_front to_pairs (operands_alone Rule.U4 i) v (in_front to_addresses (pairs_of Rule.U3 (place_names i)) v
      (direction_first v (in_back to_flags (v ∷ []) v (inl refl))))

  pub listed_pair : (cell other : Cell) → IsMember cell (place_names i) → IsMember other (place_names i)
      → IsMember (record { rule = Rule.U3; cell = cell; other = other }) (violations_of i)
  listed_pair cell other first second =
      let v : Violation = record { rule = Rule.U3; cell = cell; other = other } in
      in_front to_pairs (operands_alone Rule.U4 i) v (in_back to_addresses (pairs_of Rule.U3 (place_names i)) v
      (in_flat (λ y. map (λ z. record { rule = Rule.U3; cell = y; other = z }) (place_names i))
      (place_names i) cell v first (in_map (λ z. record { rule = Rule.U3; cell = cell; other = z })
      (place_names i) other second)))

-- ---- places

pub byte_of_place : (u b : ℕ) → b < 4 → IsMember (byte_cell u b) (place_cells u)
byte_of_place u zero lt = inl refl
byte_of_place u (suc zero) lt = inr (inl refl)
byte_of_place u (suc (suc zero)) lt = inr (inr (inl refl))
byte_of_place u (suc (suc (suc zero))) lt = inr (inr (inr (inl refl)))
byte_of_place u (suc (suc (suc (suc b)))) lt = absurd (omega (arith, lt))

pub reg_back : (u : ℕ) → u < 7 → reg_number (reg_at u) ≡ u
reg_back zero lt = refl
reg_back (suc zero) lt = refl
reg_back (suc (suc zero)) lt = refl
reg_back (suc (suc (suc zero))) lt = refl
reg_back (suc (suc (suc (suc zero)))) lt = refl
reg_back (suc (suc (suc (suc (suc zero))))) lt = refl
reg_back (suc (suc (suc (suc (suc (suc zero)))))) lt = refl
reg_back (suc (suc (suc (suc (suc (suc (suc u))))))) lt = absurd (omega (arith, lt))

-- no register has the number 7
seven : (r : Reg) → (7 == reg_number r) ≡ true → ⊥
seven r is = let small = reg_number_small r in let same = eqb-true 7 (reg_number r) is in omega (arith, small, same)

none_seven : (rs : List Reg) → is_numbered 7 rs ≡ true → ⊥
none_seven [] is = cc
none_seven (r ∷ rs) is = elim (or_cases (reg_number r == 7) (is_numbered 7 rs) is) [
  | inl here ↦ let small = reg_number_small r in let same = eqb-true (reg_number r) 7 here in omega (arith, small, same)
  | inr later ↦ none_seven rs later
]

no_seventh : (own : Option Reg) (rs : List Reg)
    → (if is_some own then 7 == number_or own else is_numbered 7 rs) ≡ true → ⊥
no_seventh None rs is = none_seven rs is
no_seventh (Some r) rs is = seven r is

module _ (i : Interface) (s : Shape) (u b : ℕ) (below : u < 37) (lt : b < 4) where
  in_places : (test : ℕ → Bool) → test u ≡ true
      → IsMember (byte_cell u b) (flat_map place_cells (filter test all_places))
  in_places test holds = in_flat place_cells (filter test all_places) u (byte_cell u b)
      (in_filter test all_places u (in_range 37 u below) holds) (byte_of_place u b lt)

  module _ (facts : Facts) (sound : EndsSound i s facts) where
    abbrev c : ℕ
    c = byte_cell u b

    -- a changed register or input breaks a rule
    undeclared_own : is_undeclared i s u ≡ true → facts (Has c (NotEntryOf c)) ≡ false
    undeclared_own is = false_from_ne_true (facts (Has c (NotEntryOf c))) broken
      where
        low : u < 7
        low = ltb-true u 7 (and_parts (nat_lt u 7) (is_none_held (holders i s u)) (and_parts (is_lone i s u) _ is).0).0

        broken : facts (Has c (NotEntryOf c)) ≡ true → ⊥
        broken changed =
            let at : breaks_w1 i s (Cell.Reg (reg_at u)) facts ≡ true = rw (reg_back u low)
            (and_from (is_undeclared i s u) (is_changed facts (place_cells u)) is
            (any_in (λ e. facts (Has e (NotEntryOf e))) (place_cells u) c (byte_of_place u b lt) changed)) in
            both_ways _ (sound.each (alone Rule.W1 (Cell.Reg (reg_at u))) (listed_register i (reg_at u)))
            (or_left _ _ at)

    input_own : is_input_place i s u ≡ true → facts (Has c (NotEntryOf c)) ≡ false
    input_own is = false_from_ne_true (facts (Has c (NotEntryOf c))) broken
      where
        held : is_none_held (holders i s u) ≡ false
        held = not-true _ (and_parts (not (is_none_held (holders i s u)))
            (not (list_any (is_output_at i) (holders i s u))) is).0

        broken : facts (Has c (NotEntryOf c)) ≡ true → ⊥
        broken changed =
            let named = held_name i s u held in
            let test : (is_input_place i s u && same_cell (name_of i s u)
            (Cell.Operand named.0)) ≡ true = and_from _ _ is
            (ap (λ n. same_cell n (Cell.Operand named.0)) named.1 ∙ same_name (Cell.Operand named.0)) in
            let at : breaks_w2 i s (Cell.Operand named.0) facts ≡ true = any_in (λ e. facts (Has e (NotEntryOf e)))
            (flat_map place_cells (filter
            (λ p. is_input_place i s p && same_cell (name_of i s p) (Cell.Operand named.0)) all_places)) c
            (in_places (λ p. is_input_place i s p && same_cell (name_of i s p)
            (Cell.Operand named.0)) test) changed in
            both_ways _ (sound.each (alone Rule.W2 (Cell.Operand named.0)) (listed_operand i named.0 named.2))
            (or_left _ _ at)

    kept_own : is_kept i s u ≡ true → facts (Has c (NotEntryOf c)) ≡ false
    kept_own is = elim (or_cases (is_undeclared i s u)
        (is_input_place i s u) is) [ inl first ↦ undeclared_own first | inr second ↦ input_own second ]

    -- so does a pair of its value
    no_pair : is_kept i s u ≡ true → (d q : ℕ) → d < 37 → q < 37 → is_place i s d ≡ true → is_place i s q ≡ true
        → facts (Has c (Pair d q)) ≡ true → ⊥
    no_pair is d q dlt qlt there_d there_q has =
        both_ways _ (sound.each (record { rule = Rule.U3; cell = name_of i s d; other = name_of i s q })
        (listed_pair i (name_of i s d) (name_of i s q) (name_listed i s d there_d) (name_listed i s q there_q)))
        (or_right (breaks_by_end i s Rule.U3 (name_of i s d) facts) _ at)
      where
        used : used_at_end i s facts (Pair d q) ≡ true
        used = or_right _ _ (any_in (λ e. facts (Has e (Pair d q))) (kept_cells i s) c (in_places (is_kept i s) is) has)

        named : (e : ℕ) → e < 37 → IsMember e (places_named i s (name_of i s e))
        named e lt = in_filter (λ p. same_cell (name_of i s p) (name_of i s e)) all_places e (in_range 37 e lt)
            (same_name (name_of i s e))

        at : breaks_u3 i s (name_of i s d) (name_of i s q) (used_at_end i s facts) ≡ true
        at = any_in (λ e. list_any (λ f. used_at_end i s facts (Pair e f)) (places_named i s (name_of i s q)))
            (places_named i s (name_of i s d)) d (named d dlt)
            (any_in (λ f. used_at_end i s facts (Pair d f)) (places_named i s (name_of i s q)) q (named q qlt) used)

    module _ (p : Placement) where
      abbrev x : Placed
      x = placed_by i s p

      pub kept_good : is_kept i s u ≡ true → IsGood x facts c
      kept_good is d q dlt qlt has = false_from_ne_true (x.has q (x.register_of d)) meets
        where
          meets : x.has q (x.register_of d) ≡ true → ⊥
          meets at = by_place (is_place i s d) refl
            where
              parts : (is_place i s q ≡ true)
                  × ((if is_some (register_under p q) then x.register_of d == number_or
                  (register_under p q) else is_numbered (x.register_of d) (address_under p (place_at q))) ≡ true)
              parts = and_parts (is_place i s q)
                  (if is_some (register_under p q) then x.register_of d == number_or
                  (register_under p q) else is_numbered (x.register_of d) (address_under p (place_at q))) at

              by_place : (there : Bool) → is_place i s d ≡ there → ⊥
              by_place true e = no_pair is d q dlt qlt e parts.0 has
              by_place false e = no_seventh (register_under p q) (address_under p (place_at q)) (rw e at parts.1)

      pub place_kept : is_kept i s u ≡ true → IsKept x facts c
      place_kept is = record { good = kept_good is; own = kept_own is }
