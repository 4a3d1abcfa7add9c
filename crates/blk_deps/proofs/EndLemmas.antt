-- What is changed at the end.
use Rattle.std.proofs.Common.{◌≡◌, inl, inr, ℕ, ◌+◌, ◌*◌, ◌/◌, ◌<◌, ◌≤◌, ◌==◌, nat_lt, nat_le, ◌&&◌, ◌||◌, not, bit_and, List, length, filter, Bool, true, false, refl, sym, ◌∙◌, arith}
use Rattle.std.specs.List.{list_any, range_with_len, flat_map}
use Rattle.std.specs.Int.{bit_at}
use Rattle.std.proofs.lemmas.Bool.{cases_lt, lt-ltb, le-ltb, true≢false}
use Rattle.dataflow.specs.Bits.{facts_in}
use Rattle.asm_core.specs.declared.shape.Shape.{Shape}
use Rattle.asm_core.specs.declared.interface.Interface.{Interface}
use Rattle.asm_core.specs.declared.finding.Cell.{Cell}
use Rattle.blk_deps.specs.Cells.{place_cells}
use Rattle.blk_deps.specs.Operands.{is_lone, is_input_place, is_none_held, is_output_at, holders, name_of, size_at}
use Rattle.blk_deps.specs.Ground.{has_bit}
use Rattle.blk_deps.specs.Layout.{row_words, shown}
use Rattle.blk_deps.specs.Facts.{Facts}
use Rattle.blk_deps.specs.Rules.{same_cell, is_undeclared, is_kept, breaks_w2, breaks_w3, is_left_unwritten}
use Rattle.blk_deps.specs.Ruling.{IsNamed, some_place, some_byte}
use Rattle.blk_deps.specs.Ending.{is_changed_cell, some_flag_changed, some_left}
use Rattle.blk_deps.specs.declared.layout.Layout.{Layout}
use Rattle.blk_deps.specs.declared.fact.Fact.TheVariants.{Unwritten}
use Rattle.blk_deps.proofs.AnyLaws.{same_truth, and_first, and_second, both_true, any_at, any_below, none_below, any_filter, any_flat_map, NoneBelow}
use Rattle.blk_deps.proofs.ByteLemmas.{bytes_of_place}
use Rattle.blk_deps.proofs.WordLemmas.{has_and}
use Rattle.blk_deps.proofs.SlotLemmas.{no_slot_of_byte}
use Rattle.blk_deps.proofs.PropertyLemmas.{has_no_bit}

-- ---- registers that have to be as at the entry

lone_kept : (seven none declared other : Bool) → ((((seven && none) && declared) || (not none && other)) &&
    (seven && none)) ≡ ((seven && none) && declared)
lone_kept true true true other = refl
lone_kept true true false other = refl
lone_kept true false true true = refl
lone_kept true false true false = refl
lone_kept true false false true = refl
lone_kept true false false false = refl
lone_kept false true true other = refl
lone_kept false true false other = refl
lone_kept false false true true = refl
lone_kept false false true false = refl
lone_kept false false false true = refl
lone_kept false false false false = refl

pub undeclared_bit : (i : Interface) (s : Shape) (kept lone p : ℕ) → has_bit kept p ≡ is_kept i s p
    → has_bit lone p ≡ is_lone i s p → has_bit (bit_and kept lone) p ≡ is_undeclared i s p
undeclared_bit i s kept lone p is_in is_alone =
    has_and kept lone p ∙ rw (is_in, is_alone)
    (lone_kept (nat_lt p 7) (is_none_held (holders i s p)) (not (bit_at i.clobbers.0 p == 1)) (not (list_any
    (is_output_at i) (holders i s p))))

-- ---- the places of inputs

pub both_named : (count one other : ℕ) (named kept : ℕ → Bool) → IsNamed count one named → ((p : ℕ) → p < 37
    → has_bit other p ≡ kept p) → IsNamed count (bit_and one other) (λ p. kept p && named p)
both_named count one other named kept is also = record {
  few = is.few;
  below = λ p lt here. is.below p lt (and_first (has_bit one p) (has_bit other p) (sym (has_and one other p) ∙ here));
  same = λ p lt. has_and one other p ∙ turned (has_bit one p) (has_bit other p)
      ∙ let few : p < 37 = omega (arith, is.few) in rw (also p few, is.same p lt) refl;
}
  where
    turned : (a b : Bool) → (a && b) ≡ (b && a)
    turned true true = refl
    turned true false = refl
    turned false true = refl
    turned false false = refl

-- the bytes of the places of a mask, where no other place has one that passes
pub bytes_of_places : (places mask : ℕ) (named test : ℕ → Bool) → IsNamed places mask named → ((c : ℕ) → c < 148
    → places ≤ c / 4 → test c ≡ false)
    → some_place mask (some_byte test) ≡ list_any test (flat_map place_cells (filter named (range_with_len 0 37)))
unfolding some_place
bytes_of_places places mask named test is outside =
    same_truth _ _ to from ∙ sym (any_flat_map test place_cells (filter named (range_with_len 0 37))
    ∙ any_filter (λ p. list_any test (place_cells p)) named (range_with_len 0 37))
  where
    some : ℕ → Bool
    some p = list_any test (place_cells p)

    to : list_any (λ p. has_bit mask p && some_byte test p) (range_with_len 0 37) ≡ true
        → list_any (λ p. named p && some p) (range_with_len 0 37) ≡ true
    to is_some =
        let found = any_below (λ p. has_bit mask p && some_byte test p) 37 is_some in
        let here = and_first (has_bit mask found.at) (some_byte test found.at) found.passes in
        let bytes = and_second (has_bit mask found.at) (some_byte test found.at) found.passes in
        let there = sym (is.same found.at (is.below found.at (omega (arith, found.below)) here)) ∙ here in
        any_at (λ p. named p && some p) 37 found.at found.below (both_true _ _ there (sym
        (bytes_of_place test found.at) ∙ bytes))

    none : (p : ℕ) → p < 37 → places ≤ p → some_byte test p ≡ false
    none p lt past =
        let first = outside (4 * p) (omega arith) (omega arith) in
        let second = outside (4 * p + 1) (omega arith) (omega arith) in
        let third = outside (4 * p + 2) (omega arith) (omega arith) in
        let fourth = outside (4 * p + 2 + 1) (omega arith) (omega arith) in
        rw (first, second, third, fourth) refl

    inside : (p : ℕ) → p < 37 → some_byte test p ≡ true → p < places
    inside p lt passes = elim (cases_lt p places) [
      | inl within ↦ within
      | inr past ↦ absurd (true≢false (sym passes ∙ none p lt past))
    ]

    from : list_any (λ p. named p && some p) (range_with_len 0 37) ≡ true
        → list_any (λ p. has_bit mask p && some_byte test p) (range_with_len 0 37) ≡ true
    from is_some =
        let found = any_below (λ p. named p && some p) 37 is_some in
        let bytes = bytes_of_place test found.at ∙ and_second (named found.at) (some found.at) found.passes in
        let here = is.same found.at (inside found.at found.below bytes)
        ∙ and_first (named found.at) (some found.at) found.passes in
        any_at (λ p. has_bit mask p && some_byte test p) 37 found.at found.below (both_true _ _ here bytes)

-- a cell that isn't there isn't changed
pub outside_changed : (l : Layout) (row : List ℕ) (c : ℕ) → length row ≡ row_words l → c < 148
    → 7 + l.operands ≤ c / 4 → is_changed_cell (shown l row) c ≡ false
outside_changed l row c size below past =
    rw (no_slot_of_byte l c below (omega arith), no_hand c below, same c) (has_no_bit l row (omega (arith, size)))
  where
    same : (c : ℕ) → (c == c) ≡ true
    same c = grind arith

    no_hand : (c : ℕ) → c < 148 → nat_le 218 c ≡ false
    no_hand c below = grind arith

-- ---- loops

pub flag_found : (facts : Facts) (f : ℕ) → f < 6 → is_changed_cell facts (148 + f) ≡ true → some_flag_changed facts
    ≡ true
unfolding some_flag_changed
flag_found facts f lt is = any_at (λ n. is_changed_cell facts (148 + n)) 6 f lt is

pub no_flag : (facts : Facts) (n : ℕ) → 6 ≤ n → NoneBelow (λ f. is_changed_cell facts (148 + f)) n
    → some_flag_changed facts ≡ false
unfolding some_flag_changed
no_flag facts n all before = none_below (λ f. is_changed_cell facts (148 + f)) 6 (λ k lt. before.none k (omega arith))

pub left_bit : (l : Layout) (row : List ℕ) (k b : ℕ) → k < l.operands → b < 64 → facts_in row (64 * (1 + k) + b)
    ≡ shown l row (Unwritten k b)
left_bit l row k b operand byte = rw (lt-ltb k l.operands operand, lt-ltb b 64 byte) refl

no_left_bit : (l : Layout) (row : List ℕ) (k b : ℕ) → length row ≡ row_words l → k < l.operands → 64 ≤ b
    → shown l row (Unwritten k b) ≡ false
no_left_bit l row k b size operand past = rw (lt-ltb k l.operands operand, le-ltb b 64 past) (has_no_bit l row
    (omega (arith, size)))

pub left_found : (l : Layout) (row : List ℕ) (k b count : ℕ) → b < count → shown l row (Unwritten k b) ≡ true
    → some_left (shown l row) k count ≡ true
unfolding some_left
left_found l row k b count lt is = any_at (λ n. shown l row (Unwritten k n)) count b lt is

pub none_left : (l : Layout) (row : List ℕ) (k count n : ℕ) → length row ≡ row_words l → k < l.operands → ((b : ℕ)
    → b < count → b < 64 → b < n) → NoneBelow (λ b. shown l row (Unwritten k b)) n
    → some_left (shown l row) k count ≡ false
unfolding some_left
none_left l row k count n size operand all before = none_below (λ b. shown l row (Unwritten k b)) count each
  where
    each : (b : ℕ) → b < count → shown l row (Unwritten k b) ≡ false
    each b lt = elim (cases_lt b 64) [
      | inl within ↦ before.none b (all b lt within)
      | inr past ↦ no_left_bit l row k b size operand past
    ]

-- ---- rules

pub flags_changed : (i : Interface) (facts : Facts) → i.cc ≡ false → some_flag_changed facts ≡ breaks_w3 i Cell.Cc facts
unfolding some_flag_changed
flags_changed i facts undeclared = rw undeclared refl

pub left_is : (i : Interface) (facts : Facts) (k count : ℕ) → count ≡ size_at i k → some_left facts k count
    ≡ is_left_unwritten i (Cell.Operand k) facts
unfolding some_left
left_is i facts k count size = rw size refl

pub inputs_changed : (i : Interface) (s : Shape) (l : Layout) (row : List ℕ) (mask : ℕ) (cell : Cell) → length row
    ≡ row_words l → l.operands ≡ length i.operands
    → IsNamed (7 + length i.operands) mask (λ p. is_input_place i s p && same_cell (name_of i s p) cell)
    → some_place mask (some_byte (is_changed_cell (shown l row))) ≡ breaks_w2 i s cell (shown l row)
inputs_changed i s l row mask cell size operands is =
    bytes_of_places (7 + length i.operands) mask (λ p. is_input_place i s p && same_cell (name_of i s p) cell)
    (is_changed_cell (shown l row)) is
    (λ c lt past. outside_changed l row c size lt (omega (arith, operands)))
