-- What is used with more told is used with less told too, and so breaks the same rules.
use Rattle.std.proofs.Common.{◌≡◌, ℕ, ◌==◌, ◌&&◌, nat_lt, not, Bool, List, map, filter, sym, ◌∙◌, ap}
use Rattle.std.specs.List.{list_any, flat_map}
use Rattle.std.specs.Int.{bit_at}
use Rattle.std.proofs.Math.Path.{fun_ext}
use Rattle.asm_core.specs.Reg.{reg_number}
use Rattle.asm_core.specs.Flag.{flag_number}
use Rattle.asm_core.specs.declared.sym.Sym.{Sym}
use Rattle.asm_core.specs.declared.shape.Shape.{Shape}
use Rattle.asm_core.specs.declared.interface.Interface.{Interface}
use Rattle.asm_core.specs.declared.finding.Rule.{Rule}
use Rattle.asm_core.specs.declared.finding.Cell.{Cell}
use Rattle.blk_deps.specs.Cells.{flag_cell, hand_cell, place_cells, place_of}
use Rattle.blk_deps.specs.Facts.{Facts, has_as_read, after_reads}
use Rattle.blk_deps.specs.Operands.{numbers_in, is_output_at, is_lone, is_input_place, name_of, covers, is_output_byte, is_byte_above}
use Rattle.blk_deps.specs.Line.{used_hands}
use Rattle.blk_deps.specs.Rules.{all_bytes, all_places, same_cell, Used, used_at_line, flags_of_output, result_cells, is_undeclared, is_kept, kept_cells, kept_pair, used_at_end, uses_entry_of, breaks_r1, cells_named, breaks_r2, breaks_r3, places_named, breaks_u3, breaks_by_use}
use Rattle.blk_deps.specs.declared.fact.Provenance.TheVariants.{EntryOf, Old, Undefined}
use Rattle.blk_deps.specs.declared.fact.Property.{Property}
use Rattle.blk_deps.specs.declared.fact.Property.TheVariants.{NotEntryOf, ComesFrom, Pair}
use Rattle.blk_deps.specs.declared.fact.Fact.TheVariants.{Has}
use Rattle.blk_patch.specs.Upward.{TellsMore}
use Rattle.blk_patch.proofs.UpwardTests.{Up, same_up, and_up, or_up, not_up, any_up, any_kept_up, any_flat_up}
use Rattle.blk_patch.proofs.UpwardPlaces.{place_same, lone_same, input_place_same, name_same, result_byte_same, output_byte_up, byte_above_same}
use Rattle.blk_patch.proofs.UpwardMoves.{joined, reads_same}

module _ (old new : Interface) (live fewer : List Shape) (s : Shape) (more : TellsMore old new live fewer s) where
  pub named_same : (cell : Cell) (p : ℕ) → same_cell (name_of new s p) cell ≡ same_cell (name_of old s p) cell
  named_same cell p = ap (λ name. same_cell name cell) (name_same old new live fewer s more p)

  -- ---- what is used

  pub used_line_same : (depth : ℕ) (line : Sym) (facts : Facts) (property : Property)
      → used_at_line new s depth line facts property ≡ used_at_line old s depth line facts property
  used_line_same depth line facts property =
      ap (λ reads. list_any (λ hand. after_reads reads facts (Has (hand_cell hand) property)) (used_hands line))
      (reads_same old new s (place_same old new live fewer s more) depth line)

  result_bytes_same : (cs : List ℕ)
      → filter (λ c. list_any (λ j. covers new s c j && is_output_at new j) (numbers_in new)) cs
      ≡ filter (λ c. list_any (λ j. covers old s c j && is_output_at old j) (numbers_in old)) cs
  result_bytes_same cs =
      ap (λ test. filter test cs) (fun_ext (result_byte_same old new live fewer s more))

  result_same : result_cells new s ≡ result_cells old s
  result_same =
      joined (filter (λ c. list_any (λ j. covers new s c j && is_output_at new j) (numbers_in new)) all_bytes)
      (map flag_cell (flat_map flags_of_output new.operands))
      (filter (λ c. list_any (λ j. covers old s c j && is_output_at old j) (numbers_in old)) all_bytes)
      (map flag_cell (flat_map flags_of_output old.operands))
      (result_bytes_same all_bytes) (ap (map flag_cell) more.result_flags)

  pub undeclared_up : (p : ℕ) → Up (is_undeclared new s p) (is_undeclared old s p)
  undeclared_up p =
      and_up (is_lone new s p) (not (bit_at new.clobbers.0 p == 1)) (is_lone old s p)
      (not (bit_at old.clobbers.0 p == 1))
      (same_up (is_lone new s p) (is_lone old s p) (lone_same old new live fewer s more p))
      (not_up (bit_at new.clobbers.0 p == 1) (bit_at old.clobbers.0 p == 1) (more.clobbers p))

  kept_up : (p : ℕ) → Up (is_kept new s p) (is_kept old s p)
  kept_up p =
      or_up (is_undeclared new s p) (is_input_place new s p) (is_undeclared old s p) (is_input_place old s p)
      (undeclared_up p)
      (same_up (is_input_place new s p) (is_input_place old s p) (input_place_same old new live fewer s more p))

  kept_pair_up : (facts : Facts) (property : Property)
      → Up (kept_pair facts (kept_cells new s) property) (kept_pair facts (kept_cells old s) property)
  kept_pair_up facts (Pair d u) =
      any_flat_up (λ c. facts (Has c (Pair d u))) place_cells (is_kept new s) (is_kept old s) kept_up all_places
  kept_pair_up facts (NotEntryOf c) = λ is. is
  kept_pair_up facts (ComesFrom x) = λ is. is

  pub used_end_up : (facts : Facts) (property : Property)
      → Up (used_at_end new s facts property) (used_at_end old s facts property)
  used_end_up facts property =
      or_up (list_any (λ c. has_as_read facts c property) (result_cells new s))
      (kept_pair facts (kept_cells new s) property)
      (list_any (λ c. has_as_read facts c property) (result_cells old s))
      (kept_pair facts (kept_cells old s) property)
      (same_up (list_any (λ c. has_as_read facts c property) (result_cells new s))
      (list_any (λ c. has_as_read facts c property) (result_cells old s))
      (ap (list_any (λ c. has_as_read facts c property)) result_same))
      (kept_pair_up facts property)

  -- ---- rules on what is used

  module _ (used wider : Used) (up : (property : Property) → Up (used property) (wider property)) where
    entry_up : (cells : List ℕ) → Up (uses_entry_of used cells) (uses_entry_of wider cells)
    entry_up cells =
        any_up (λ c. used (ComesFrom (EntryOf c))) (λ c. wider (ComesFrom (EntryOf c)))
        (λ c. up (ComesFrom (EntryOf c))) cells

    named_up : (class : Interface → Shape → ℕ → Bool) → ((c : ℕ) → Up (class new s c) (class old s c)) → (cell : Cell)
        → Up (uses_entry_of used (cells_named new s class cell)) (uses_entry_of wider (cells_named old s class cell))
    named_up class falls cell =
        any_kept_up (λ c. used (ComesFrom (EntryOf c))) (λ c. wider (ComesFrom (EntryOf c)))
        (λ c. class new s c && same_cell (name_of new s (place_of c)) cell)
        (λ c. class old s c && same_cell (name_of old s (place_of c)) cell)
        (λ c. and_up (class new s c) (same_cell (name_of new s (place_of c)) cell) (class old s c)
        (same_cell (name_of old s (place_of c)) cell) (falls c)
        (same_up (same_cell (name_of new s (place_of c)) cell) (same_cell (name_of old s (place_of c)) cell)
        (named_same cell (place_of c))))
        (λ c. up (ComesFrom (EntryOf c))) all_bytes

    r1_up : (cell : Cell) → Up (breaks_r1 new s cell used) (breaks_r1 old s cell wider)
    r1_up (Cell.Reg r) =
        and_up (is_lone new s (reg_number r)) (uses_entry_of used (place_cells (reg_number r)))
        (is_lone old s (reg_number r)) (uses_entry_of wider (place_cells (reg_number r)))
        (same_up (is_lone new s (reg_number r)) (is_lone old s (reg_number r))
        (lone_same old new live fewer s more (reg_number r)))
        (entry_up (place_cells (reg_number r)))
    r1_up (Cell.Flag f) =
        and_up (nat_lt (flag_number f) 6) (used (ComesFrom (EntryOf (flag_cell f)))) (nat_lt (flag_number f) 6)
        (wider (ComesFrom (EntryOf (flag_cell f)))) (λ is. is) (up (ComesFrom (EntryOf (flag_cell f))))
    r1_up cell = λ is. is

    r2_up : (cell : Cell) → Up (breaks_r2 new s cell used) (breaks_r2 old s cell wider)
    r2_up (Cell.Operand k) =
        or_up (uses_entry_of used (cells_named new s is_output_byte (Cell.Operand k))) (used (ComesFrom (Old k)))
        (uses_entry_of wider (cells_named old s is_output_byte (Cell.Operand k))) (wider (ComesFrom (Old k)))
        (named_up is_output_byte (output_byte_up old new live fewer s more) (Cell.Operand k)) (up (ComesFrom (Old k)))
    r2_up cell = λ is. is

    r3_up : (cell : Cell) → Up (breaks_r3 new s cell used) (breaks_r3 old s cell wider)
    r3_up (Cell.Operand k) =
        named_up is_byte_above
        (λ c. same_up (is_byte_above new s c) (is_byte_above old s c) (byte_above_same old new live fewer s more c))
        (Cell.Operand k)
    r3_up Cell.Nothing = up (ComesFrom Undefined)
    r3_up cell = λ is. is

    places_same : (cell : Cell) (ps : List ℕ)
        → filter (λ p. same_cell (name_of new s p) cell) ps ≡ filter (λ p. same_cell (name_of old s p) cell) ps
    places_same cell ps = ap (λ test. filter test ps) (fun_ext (named_same cell))

    pairs_up : (ds us : List ℕ)
        → Up (list_any (λ d. list_any (λ u. used (Pair d u)) us) ds)
        (list_any (λ d. list_any (λ u. wider (Pair d u)) us) ds)
    pairs_up ds us =
        any_up (λ d. list_any (λ u. used (Pair d u)) us) (λ d. list_any (λ u. wider (Pair d u)) us)
        (λ d. any_up (λ u. used (Pair d u)) (λ u. wider (Pair d u)) (λ u. up (Pair d u)) us) ds

    u3_up : (cell other : Cell) → Up (breaks_u3 new s cell other used) (breaks_u3 old s cell other wider)
    u3_up cell other is =
        pairs_up (places_named old s cell) (places_named old s other)
        (sym (ap (λ us. list_any (λ d. list_any (λ u. used (Pair d u)) us) (places_named old s cell))
        (places_same other all_places))
        ∙ sym (ap (list_any (λ d. list_any (λ u. used (Pair d u)) (places_named new s other)))
        (places_same cell all_places))
        ∙ is)

    pub use_up : (rule : Rule) (cell other : Cell)
        → Up (breaks_by_use new s rule cell other used) (breaks_by_use old s rule cell other wider)
    use_up Rule.R1 cell other = r1_up cell
    use_up Rule.R2 cell other = r2_up cell
    use_up Rule.R3 cell other = r3_up cell
    use_up Rule.U3 cell other = u3_up cell other
    use_up rule cell other = λ is. is
