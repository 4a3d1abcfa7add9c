-- What is used at the end, by cells.
use Rattle.std.proofs.Common.{◌≡◌, ◌⊎◌, inl, inr, ℕ, ◌+◌, ◌*◌, ◌/◌, ◌<◌, ◌≤◌, ◌==◌, ◌&&◌, ◌||◌, nat_lt, not, List, [], ◌∷◌, length, filter, map, Bool, true, false, Option, Some, None, if◌then◌else◌, refl, sym, ap, ◌∙◌, arith}
use Rattle.std.specs.List.{list_any, range_with_len, flat_map, slice_get}
use Rattle.std.proofs.lemmas.Bool.{true≢false, false≢true, cases_eq, cases_lt, eq-eqb, ne_eqb, le-ltb}
use Rattle.std.proofs.lemmas.List.Folds.{list_any-append}
use Rattle.std.proofs.Math.Bool.{and-false}
use Rattle.asm_core.specs.Reg.{reg_number}
use Rattle.asm_core.specs.Flag.{flag_number}
use Rattle.asm_core.specs.Placement.{tie_root}
use Rattle.asm_core.specs.Company.{places_of, places_by, fixed_place, held_at, is_pair_alone}
use Rattle.asm_core.specs.Reading.Facts.{fixed_register, alternative_at}
use Rattle.asm_core.specs.WellFormed.{IsInterface}
use Rattle.asm_core.specs.declared.reg.Reg.{Reg}
use Rattle.asm_core.specs.declared.flag.Flag.{Flag}
use Rattle.asm_core.specs.declared.cond.Cond.{Cond}
use Rattle.asm_core.specs.declared.cond.Cond.TheVariants as conds
use Rattle.asm_core.specs.declared.sym.Place.{Place}
use Rattle.asm_core.specs.declared.company.Held.{Held}
use Rattle.asm_core.specs.declared.company.Places.{Places}
use Rattle.asm_core.specs.declared.shape.Kind.{Kind}
use Rattle.asm_core.specs.declared.shape.Shape.{Shape}
use Rattle.asm_core.specs.declared.interface.AltIface.{AltIface}
use Rattle.asm_core.specs.declared.interface.OperandIface.{OperandIface}
use Rattle.asm_core.specs.declared.interface.Interface.{Interface}
use Rattle.blk_deps.specs.Cells.{place_cells, flag_cell, place_at}
use Rattle.blk_deps.specs.Facts.{Facts, has_as_read}
use Rattle.blk_deps.specs.Ground.{has_bit, has_cell_bit, is_result_byte, is_result_flag}
use Rattle.blk_deps.specs.Operands.{in_register, holds, covers, is_held, is_output_at}
use Rattle.blk_deps.specs.Rules.{condition_flags, flags_of_output, is_kept, kept_cells, kept_pair, used_at_end}
use Rattle.blk_deps.specs.Collecting.{some_of, of_result, of_flag, of_kept}
use Rattle.blk_deps.specs.declared.fact.Property.{Property}
use Rattle.blk_deps.specs.declared.fact.Property.TheVariants.{NotEntryOf, ComesFrom, Pair}
use Rattle.blk_deps.specs.declared.fact.Fact.TheVariants.{Has}
use Rattle.blk_deps.proofs.AnyLaws.{same_truth, and_first, and_second, both_true, one_true, any_at, any_below, none_below, any_filter, any_map, any_flat_map}
use Rattle.blk_deps.proofs.ByteLemmas.{byte_any, byte_found, bytes_of_place}
use Rattle.blk_deps.proofs.UseLemmas.{reg_below}
use Rattle.blk_deps.proofs.ReachLemmas.{any_numbered}
use Rattle.blk_deps.proofs.GroundPlaces.{held_one, is_operand}

-- ---- results

-- the bytes of results, where no place behind the layout's has any
pub results_are : (i : Interface) (s : Shape) (results : List ℕ) (facts : Facts) (places : ℕ) (property : Property)
    → places ≤ 37
    → ((c : ℕ) → c < 148 → has_cell_bit results c ≡ is_result_byte i s c) → ((c : ℕ) → c < 148 → places ≤ c / 4
    → is_result_byte i s c ≡ false)
    → some_of (of_result results facts property) (4 * places)
    ≡ list_any (λ c. has_as_read facts c property) (filter (is_result_byte i s) (range_with_len 0 148))
unfolding some_of
results_are i s results facts places property few are outside =
    same_truth _ _ to from ∙ sym (any_filter (λ c. has_as_read facts c property) (is_result_byte i s)
    (range_with_len 0 148))
  where
    read : ℕ → Bool
    read c = has_as_read facts c property

    to : list_any (λ c. has_cell_bit results c && read c) (range_with_len 0 (4 * places)) ≡ true
        → list_any (λ c. is_result_byte i s c && read c) (range_with_len 0 148) ≡ true
    to some =
        let found = any_below (λ c. has_cell_bit results c && read c) (4 * places) some in
        let within : found.at < 148 = omega (arith, found.below, few) in
        any_at (λ c. is_result_byte i s c && read c) 148 found.at within
        (both_true _ _ (sym (are found.at within) ∙ and_first (has_cell_bit results found.at)
        (read found.at) found.passes) (and_second (has_cell_bit results found.at) (read found.at) found.passes))

    inside : (c : ℕ) → c < 148 → is_result_byte i s c ≡ true → c / 4 < places
    inside c lt is = elim (cases_lt (c / 4) places) [
      | inl within ↦ within
      | inr past ↦ absurd (true≢false (sym is ∙ outside c lt past))
    ]

    from : list_any (λ c. is_result_byte i s c && read c) (range_with_len 0 148) ≡ true
        → list_any (λ c. has_cell_bit results c && read c) (range_with_len 0 (4 * places)) ≡ true
    from some =
        let found = any_below (λ c. is_result_byte i s c && read c) 148 some in
        let is = and_first (is_result_byte i s found.at) (read found.at) found.passes in
        let place = inside found.at found.below is in
        any_at (λ c. has_cell_bit results c && read c) (4 * places) found.at (omega (arith, place))
        (both_true _ _ (are found.at found.below ∙ is) (and_second (is_result_byte i s found.at)
        (read found.at) found.passes))

-- ---- flags

of_condition : (cond : Cond) → list_any (λ g. not (nat_lt (flag_number g) 6)) (condition_flags cond) ≡ false
of_condition conds.O = refl
of_condition conds.No = refl
of_condition conds.B = refl
of_condition conds.Ae = refl
of_condition conds.E = refl
of_condition conds.Ne = refl
of_condition conds.Be = refl
of_condition conds.A = refl
of_condition conds.S = refl
of_condition conds.Ns = refl
of_condition conds.P = refl
of_condition conds.Np = refl
of_condition conds.L = refl
of_condition conds.Ge = refl
of_condition conds.Le = refl
of_condition conds.G = refl

of_output : (flag : Option Cond) → list_any (λ g. not (nat_lt (flag_number g) 6))
    (elim flag [ None ↦ [] | Some cond ↦ condition_flags cond ]) ≡ false
of_output None = refl
of_output (Some cond) = of_condition cond

no_direction : (os : List OperandIface) → list_any (λ g. not (nat_lt (flag_number g) 6))
    (flat_map flags_of_output os) ≡ false
no_direction [] = refl
no_direction (o ∷ os) = list_any-append (λ g. not (nat_lt (flag_number g) 6)) (flags_of_output o)
    (flat_map flags_of_output os)
    ∙ ap (λ b. b || list_any (λ g. not (nat_lt (flag_number g) 6)) (flat_map flags_of_output os))
    (of_output o.flag) ∙ no_direction os

flag_found : (gs : List Flag) (test : ℕ → Bool) (f : ℕ) → list_any (λ g. flag_number g == f) gs ≡ true → test f
    ≡ true → list_any (λ g. test (flag_number g)) gs ≡ true
flag_found [] test f some is = absurd (false≢true some)
flag_found (g ∷ gs) test f some is = elim (one_true (flag_number g == f) (list_any (λ h. flag_number h == f) gs) some) [
  | inl here ↦ elim (cases_eq (flag_number g) f) [
    | inl same ↦ rw (same, is) refl
    | inr other ↦ absurd (false≢true (sym (ne_eqb (flag_number g) f other) ∙ here))
  ]
  | inr later ↦ or_right (test (flag_number g)) _ (flag_found gs test f later is)
]
  where
    or_right : (a b : Bool) → b ≡ true → (a || b) ≡ true
    or_right true b is = refl
    or_right false b is = is

-- a flag of the list that passes
record FlagOf (gs : List Flag) (test : ℕ → Bool) : Type 0 where
  pub at : ℕ
  pub below : at < 6
  pub listed : list_any (λ g. flag_number g == at) gs ≡ true
  pub passes : test at ≡ true

flag_from : (gs : List Flag) (test : ℕ → Bool) → list_any (λ g. not (nat_lt (flag_number g) 6)) gs ≡ false
    → list_any (λ g. test (flag_number g)) gs ≡ true → FlagOf gs test
flag_from [] test all some = absurd (false≢true some)
flag_from (g ∷ gs) test all some = elim (one_true (test (flag_number g)) (list_any (λ h. test
    (flag_number h)) gs) some) [
      | inl here ↦ record {
        at = flag_number g;
        below = below (cases_lt (flag_number g) 6);
        listed = rw (eq-eqb
            (flag_number g) (flag_number g) refl) refl;
        passes = here;
      }
      | inr later ↦
          let found = flag_from gs test (rest (not (nat_lt (flag_number g) 6)) _ all) later in
          record {
            at = found.at;
            below = found.below;
            listed = or_right
                (flag_number g == found.at) _ found.listed;
            passes = found.passes;
          }
    ]
  where
    or_right : (a b : Bool) → b ≡ true → (a || b) ≡ true
    or_right true b is = refl
    or_right false b is = is

    rest : (a b : Bool) → (a || b) ≡ false → b ≡ false
    rest true b is = absurd (true≢false is)
    rest false b is = is

    below : (flag_number g < 6) ⊎ (6 ≤ flag_number g) → flag_number g < 6
    below (inl lt) = lt
    below (inr past) = absurd (true≢false (sym (rw (le-ltb (flag_number g) 6 past) refl) ∙ all))

pub flags_are : (i : Interface) (bits : ℕ) (facts : Facts) (property : Property) → ((f : ℕ) → f < 6
    → has_bit bits f ≡ is_result_flag i f)
    → some_of (of_flag bits facts property) 6 ≡ list_any (λ c. has_as_read facts c property) (map flag_cell
    (flat_map flags_of_output i.operands))
unfolding some_of
flags_are i bits facts property are =
    same_truth _ _ to from ∙ sym (any_map (λ c. has_as_read facts c property) flag_cell
    (flat_map flags_of_output i.operands))
  where
    read : ℕ → Bool
    read f = has_as_read facts (148 + f) property

    to : list_any (λ f. has_bit bits f && read f) (range_with_len 0 6) ≡ true
        → list_any (λ g. read (flag_number g)) (flat_map flags_of_output i.operands) ≡ true
    to some =
        let found = any_below (λ f. has_bit bits f && read f) 6 some in
        flag_found (flat_map flags_of_output i.operands) read found.at (sym (are found.at found.below)
        ∙ and_first (has_bit bits found.at) (read found.at) found.passes) (and_second (has_bit bits found.at)
        (read found.at) found.passes)

    from : list_any (λ g. read (flag_number g)) (flat_map flags_of_output i.operands) ≡ true
        → list_any (λ f. has_bit bits f && read f) (range_with_len 0 6) ≡ true
    from some =
        let found = flag_from (flat_map flags_of_output i.operands) read (no_direction i.operands) some in
        any_at (λ f. has_bit bits f && read f) 6 found.at found.below (both_true _ _ (are found.at found.below
        ∙ found.listed) found.passes)

-- ---- what has to be as at the entry

pub kept_are : (i : Interface) (s : Shape) (kept : ℕ) (facts : Facts) (places : ℕ) (property : Property) → places ≤ 37
    → ((p : ℕ) → p < 37 → has_bit kept p ≡ is_kept i s p) → ((c d u : ℕ) → c < 148 → places ≤ c / 4
    → facts (Has c (Pair d u)) ≡ false)
    → some_of (of_kept kept facts property) (4 * places) ≡ kept_pair facts (kept_cells i s) property
unfolding some_of
kept_are i s kept facts places (NotEntryOf e) few are outside = none_below (λ c. has_bit kept (c / 4) && false)
    (4 * places) (λ c lt. and-false (has_bit kept (c / 4)))
kept_are i s kept facts places (ComesFrom source) few are outside = none_below (λ c. has_bit kept (c / 4) && false)
    (4 * places) (λ c lt. and-false (has_bit kept (c / 4)))
kept_are i s kept facts places (Pair d u) few are outside =
    same_truth _ _ to from ∙ sym (any_flat_map test place_cells (filter (is_kept i s) (range_with_len 0 37))
    ∙ any_filter (λ p. list_any test (place_cells p)) (is_kept i s) (range_with_len 0 37))
  where
    test : ℕ → Bool
    test c = facts (Has c (Pair d u))

    some : ℕ → Bool
    some p = list_any test (place_cells p)

    to : list_any (λ c. has_bit kept (c / 4) && test c) (range_with_len 0 (4 * places)) ≡ true
        → list_any (λ p. is_kept i s p && some p) (range_with_len 0 37) ≡ true
    to is_some =
        let found = any_below (λ c. has_bit kept (c / 4) && test c) (4 * places) is_some in
        let place : found.at / 4 < 37 = omega (arith, found.below, few) in
        let passes = and_second (has_bit kept (found.at / 4)) (test found.at) found.passes in
        any_at (λ p. is_kept i s p && some p) 37 (found.at / 4) place
        (both_true _ _ (sym (are (found.at / 4) place) ∙ and_first (has_bit kept (found.at / 4))
        (test found.at) found.passes)
        (sym (bytes_of_place test (found.at / 4)) ∙ byte_any test (found.at / 4) found.at (omega arith)
        (omega arith) passes))

    inside : (c : ℕ) → c < 148 → test c ≡ true → c / 4 < places
    inside c lt is = elim (cases_lt (c / 4) places) [
      | inl within ↦ within
      | inr past ↦ absurd (true≢false (sym is ∙ outside c d u lt past))
    ]

    from : list_any (λ p. is_kept i s p && some p) (range_with_len 0 37) ≡ true
        → list_any (λ c. has_bit kept (c / 4) && test c) (range_with_len 0 (4 * places)) ≡ true
    from is_some =
        let found = any_below (λ p. is_kept i s p && some p) 37 is_some in
        let byte = byte_found test found.at (bytes_of_place test found.at
        ∙ and_second (is_kept i s found.at) (some found.at) found.passes) in
        let within : byte.at < 148 = omega (arith, found.below, byte.below) in
        let place : byte.at / 4 ≡ found.at = omega (arith, byte.from, byte.below) in
        let there = inside byte.at within byte.passes in
        any_at (λ c. has_bit kept (c / 4) && test c) (4 * places) byte.at (omega (arith, there))
        (both_true _ _ (ap (has_bit kept) place ∙ are found.at found.below
        ∙ and_first (is_kept i s found.at) (some found.at) found.passes) byte.passes)

-- ---- no operand is at a place behind the layout's

tie_below : (i : Interface) (s : Shape) (j : ℕ) → IsInterface i → j < length i.operands
    → tie_root i s j < length i.operands
tie_below i s j is lt = by_operand (slice_get i.operands j) refl
  where
    by_tie : (o : OperandIface) (alt : AltIface) (tied : Option ℕ) → slice_get i.operands j ≡ Some o
        → slice_get o.alts s.alternative ≡ Some alt → alt.tied ≡ tied → tie_root i s j < length i.operands
    by_tie o alt None eo ea et = rw (eo, ea, et) lt
    by_tie o alt (Some output) eo ea et =
        let tie = is.ties j s.alternative output o alt (record { is_operand = eo; is_alternative = ea }) et in
        rw (eo, ea, et) (omega (arith, tie.before, lt))

    by_alternative : (o : OperandIface) (oa : Option AltIface) → slice_get i.operands j ≡ Some o
        → slice_get o.alts s.alternative ≡ oa → tie_root i s j < length i.operands
    by_alternative o None eo ea = rw (eo, ea) lt
    by_alternative o (Some alt) eo ea = by_tie o alt alt.tied eo ea refl

    by_operand : (o : Option OperandIface) → slice_get i.operands j ≡ o → tie_root i s j < length i.operands
    by_operand None eo = rw eo lt
    by_operand (Some o) eo = by_alternative o (slice_get o.alts s.alternative) eo refl

not_own : (p root : ℕ) → 7 + root < p → is_held (held_at (place_at p) (Places.One (Place.Operand root))) ≡ false
not_own p root past = held_one p (Place.Operand root) ∙ ne_eqb p (7 + root) (λ e. omega (arith, e))

not_placed : (p root : ℕ) (oa : Option AltIface) (ok : Option Kind) → 7 + root < p
    → is_held (held_at (place_at p) (places_by root oa ok)) ≡ false
not_placed p root None ok past = not_own p root past
not_placed p root (Some alt) None past = not_own p root past
not_placed p root (Some alt) (Some Kind.Memory) past = not_own p root past
not_placed p root (Some alt) (Some Kind.Number) past = not_own p root past
not_placed p root (Some alt) (Some Kind.Register) past = by (is_pair_alone alt) (fixed_register alt)
  where
    by : (b : Bool) (r : Option Reg) → is_held (held_at (place_at p) (if b then Places.Pair else Places.One
        (fixed_place root r))) ≡ false
    by true r = rw (is_operand p (omega arith)) refl
    by false None = not_own p root past
    by false (Some r) = let below = reg_below r in held_one p (Place.Reg r)
        ∙ ne_eqb p (reg_number r) (λ e. omega (arith, e, below))

not_held : (i : Interface) (s : Shape) (p j : ℕ) → IsInterface i → j < length i.operands
    → 7 + length i.operands ≤ p → is_held (held_at (place_at p) (places_of i s j)) ≡ false
unfolding places_of
not_held i s p j is lt past =
    let below = tie_below i s j is lt in
    not_placed p (tie_root i s j) (alternative_at (slice_get i.operands (tie_root i s j)) s.alternative)
    (slice_get s.kinds (tie_root i s j)) (omega (arith, below))

not_holding : (i : Interface) (s : Shape) (p j : ℕ) → IsInterface i → j < length i.operands
    → 7 + length i.operands ≤ p → holds i s p j ≡ false
not_holding i s p j is lt past = by (in_register s j)
  where
    by : (b : Bool) → is_held (if b then held_at (place_at p) (places_of i s j) else Held.Nothing) ≡ false
    by true = not_held i s p j is lt past
    by false = refl

pub no_result_past : (i : Interface) (s : Shape) (c : ℕ) → IsInterface i → 7 + length i.operands ≤ c / 4
    → is_result_byte i s c ≡ false
no_result_past i s c is past = any_numbered (λ j. covers i s c j && is_output_at i j) i.operands
    ∙ none_below (λ j. covers i s c j && is_output_at i j) (length i.operands) none
  where
    none : (j : ℕ) → j < length i.operands → (covers i s c j && is_output_at i j) ≡ false
    none j lt = rw (not_holding i s (c / 4) j is lt past) refl

-- ---- all of it

pub end_uses : (i : Interface) (s : Shape) (results : List ℕ) (flags kept : ℕ) (facts : Facts) (places : ℕ)
    (property : Property) → IsInterface i → places ≡ 7 + length i.operands
    → ((c : ℕ) → c < 148 → has_cell_bit results c ≡ is_result_byte i s c) → ((f : ℕ) → f < 6 → has_bit flags f
    ≡ is_result_flag i f) → ((p : ℕ) → p < 37 → has_bit kept p ≡ is_kept i s p)
    → ((c d u : ℕ) → c < 148 → places ≤ c / 4 → facts (Has c (Pair d u)) ≡ false)
    → ((some_of (of_result results facts property) (4 * places) || some_of
    (of_flag flags facts property) 6) || some_of (of_kept kept facts property) (4 * places))
    ≡ used_at_end i s facts property
end_uses i s results flags kept facts places property is count of_results of_flags of_kept_places outside =
    let few : places ≤ 37 = omega (arith, count, is.few) in
    let bytes = results_are i s results facts places property few of_results (λ c lt past. no_result_past i s c is
    (omega (arith, past, count))) in
    let conditions = flags_are i flags facts property of_flags in
    let pairs = kept_are i s kept facts places property few of_kept_places outside in
    joined _ _ _ _ _ _ bytes conditions pairs
    ∙ ap (λ b. b || kept_pair facts (kept_cells i s) property)
    (sym (list_any-append (λ c. has_as_read facts c property) (filter (is_result_byte i s) (range_with_len 0 148))
    (map flag_cell (flat_map flags_of_output i.operands))))
  where
    joined : (a b c x y z : Bool) → a ≡ x → b ≡ y → c ≡ z → ((a || b) || c) ≡ ((x || y) || z)
    joined a b c x y z one two three = rw (one, two, three) refl
