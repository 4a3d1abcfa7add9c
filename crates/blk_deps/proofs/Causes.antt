-- Each test of the rules on paths is true by one fact.
use Rattle.std.proofs.Common.{◌≡◌, ℕ, ◌+◌, ◌-◌, ◌==◌, ◌&&◌, ◌||◌, nat_lt, not, Bool, List, [], ◌∷◌, filter, map}
use Rattle.std.specs.List.{range_with_len, list_any, flat_map}
use Rattle.asm_core.specs.Reg.{reg_number}
use Rattle.asm_core.specs.Flag.{flag_number}
use Rattle.asm_core.specs.declared.flag.Flag.TheVariants.{Cf, Pf, Af, Zf, Sf, Of, Df}
use Rattle.asm_core.specs.declared.sym.Sym.{Sym}
use Rattle.asm_core.specs.declared.shape.Shape.{Shape}
use Rattle.asm_core.specs.declared.interface.Interface.{Interface}
use Rattle.asm_core.specs.declared.finding.Rule.{Rule}
use Rattle.asm_core.specs.declared.finding.Cell.{Cell}
use Rattle.dataflow.specs.Cause.{IsSingle}
use Rattle.dataflow.specs.Causes.{one_fact, never, either, where_true, some_of}
use Rattle.blk_deps.specs.Cells.{flag_cell, hand_cell, place_cells}
use Rattle.blk_deps.specs.Facts.{Facts}
use Rattle.blk_deps.specs.Operands.{is_lone, is_input_place, name_of, size_at, is_output_byte, is_byte_above}
use Rattle.blk_deps.specs.Line.{line_reads, used_hands}
use Rattle.blk_deps.specs.MoveLaws.{as_read_single, reads_law}
use Rattle.blk_deps.specs.Rules.{flags, all_places, same_cell, Used, used_at_line, result_cells, is_undeclared, kept_cells, kept_pair, used_at_end, uses_entry_of, breaks_r1, cells_named, breaks_r2, breaks_r3, places_named, breaks_u3, breaks_by_use, breaks_by_access, breaks_at_line, is_changed, breaks_w1, breaks_w2, breaks_w3, breaks_w4, is_left_unwritten, breaks_by_end, breaks_at_end}
use Rattle.blk_deps.specs.declared.violation.Violation.{Violation}
use Rattle.blk_deps.specs.declared.fact.Provenance.TheVariants.{EntryOf, Old, Undefined}
use Rattle.blk_deps.specs.declared.fact.Property.{Property}
use Rattle.blk_deps.specs.declared.fact.Property.TheVariants.{NotEntryOf, ComesFrom, Pair}
use Rattle.blk_deps.specs.declared.fact.Fact.TheVariants.{Here, Has, Unwritten, DirectionSet}

module _ (i : Interface) (s : Shape) where
  -- ---- what is used

  pub used_at_line_single : (depth : ℕ) (line : Sym) (property : Property)
      → IsSingle (λ (facts : Facts). used_at_line i s depth line facts property)
  used_at_line_single depth line property =
      some_of (used_hands line) (λ hand. (reads_law (line_reads i s depth line)).each (Has (hand_cell hand) property))

  kept_pair_single : (cells : List ℕ) (property : Property) → IsSingle
      (λ (facts : Facts). kept_pair facts cells property)
  kept_pair_single cells (Pair d u) = some_of cells (λ c. one_fact (Has c (Pair d u)))
  kept_pair_single cells (NotEntryOf c) = never
  kept_pair_single cells (ComesFrom x) = never

  pub used_at_end_single : (property : Property) → IsSingle (λ (facts : Facts). used_at_end i s facts property)
  used_at_end_single property =
      either (some_of (result_cells i s) (λ c. as_read_single c property)) (kept_pair_single (kept_cells i s) property)

  module _ (used : Facts → Used) (each : (property : Property) → IsSingle (λ (facts : Facts). used facts property))
    where
      entry_single : (cells : List ℕ) → IsSingle (λ (facts : Facts). uses_entry_of (used facts) cells)
      entry_single cells = some_of cells (λ c. each (ComesFrom (EntryOf c)))

      r1_single : (cell : Cell) → IsSingle (λ (facts : Facts). breaks_r1 i s cell (used facts))
      r1_single (Cell.Reg r) = where_true (is_lone i s (reg_number r)) (entry_single (place_cells (reg_number r)))
      r1_single (Cell.Flag f) = where_true (nat_lt (flag_number f) 6) (each (ComesFrom (EntryOf (flag_cell f))))
      r1_single (Cell.Operand k) = never
      r1_single Cell.Memory = never
      r1_single Cell.Cc = never
      r1_single Cell.Nothing = never

      r2_single : (cell : Cell) → IsSingle (λ (facts : Facts). breaks_r2 i s cell (used facts))
      r2_single (Cell.Operand k) = either (entry_single (cells_named i s is_output_byte (Cell.Operand k)))
          (each (ComesFrom (Old k)))
      r2_single (Cell.Reg r) = never
      r2_single (Cell.Flag f) = never
      r2_single Cell.Memory = never
      r2_single Cell.Cc = never
      r2_single Cell.Nothing = never

      r3_single : (cell : Cell) → IsSingle (λ (facts : Facts). breaks_r3 i s cell (used facts))
      r3_single (Cell.Operand k) = entry_single (cells_named i s is_byte_above (Cell.Operand k))
      r3_single Cell.Nothing = each (ComesFrom Undefined)
      r3_single (Cell.Reg r) = never
      r3_single (Cell.Flag f) = never
      r3_single Cell.Memory = never
      r3_single Cell.Cc = never

      u3_single : (cell other : Cell) → IsSingle (λ (facts : Facts). breaks_u3 i s cell other (used facts))
      u3_single cell other = some_of (places_named i s cell)
          (λ d. some_of (places_named i s other) (λ u. each (Pair d u)))

      by_use_single : (rule : Rule) (cell other : Cell) → IsSingle
          (λ (facts : Facts). breaks_by_use i s rule cell other (used facts))
      by_use_single Rule.R1 cell other = r1_single cell
      by_use_single Rule.R2 cell other = r2_single cell
      by_use_single Rule.R3 cell other = r3_single cell
      by_use_single Rule.U3 cell other = u3_single cell other
      by_use_single Rule.W1 cell other = never
      by_use_single Rule.W2 cell other = never
      by_use_single Rule.W3 cell other = never
      by_use_single Rule.W4 cell other = never
      by_use_single Rule.M1 cell other = never
      by_use_single Rule.M2 cell other = never
      by_use_single Rule.U1 cell other = never
      by_use_single Rule.U2 cell other = never
      by_use_single Rule.U4 cell other = never
      by_use_single Rule.S1 cell other = never
      by_use_single Rule.S2 cell other = never
      by_use_single Rule.S3 cell other = never
      by_use_single Rule.J1 cell other = never
      by_use_single Rule.K1 cell other = never
      by_use_single Rule.K2 cell other = never

  -- ---- at an instruction, and at the end

  pub line_single : (live : List Shape) (depth : ℕ) (line : Sym) (x : Violation)
      → IsSingle (breaks_at_line i live s depth line x)
  line_single live depth line x =
      either (where_true (breaks_by_access i live depth line x.rule x.cell) (one_fact Here))
      (by_use_single (used_at_line i s depth line) (used_at_line_single depth line) x.rule x.cell x.other)

  changed_single : (cells : List ℕ) → IsSingle (λ (facts : Facts). is_changed facts cells)
  changed_single cells = some_of cells (λ c. one_fact (Has c (NotEntryOf c)))

  w1_single : (cell : Cell) → IsSingle (breaks_w1 i s cell)
  w1_single (Cell.Reg r) = where_true (is_undeclared i s (reg_number r)) (changed_single (place_cells (reg_number r)))
  w1_single (Cell.Operand k) = never
  w1_single (Cell.Flag f) = never
  w1_single Cell.Memory = never
  w1_single Cell.Cc = never
  w1_single Cell.Nothing = never

  w2_single : (cell : Cell) → IsSingle (breaks_w2 i s cell)
  w2_single cell = changed_single
      (flat_map place_cells (filter (λ p. is_input_place i s p && same_cell (name_of i s p) cell) all_places))

  w3_single : (cell : Cell) → IsSingle (breaks_w3 i cell)
  w3_single Cell.Cc = where_true (not i.cc) (changed_single (map flag_cell flags))
  w3_single (Cell.Reg r) = never
  w3_single (Cell.Flag f) = never
  w3_single (Cell.Operand k) = never
  w3_single Cell.Memory = never
  w3_single Cell.Nothing = never

  w4_single : (cell : Cell) → IsSingle (breaks_w4 cell)
  w4_single (Cell.Flag Df) = one_fact DirectionSet
  w4_single (Cell.Flag Cf) = never
  w4_single (Cell.Flag Pf) = never
  w4_single (Cell.Flag Af) = never
  w4_single (Cell.Flag Zf) = never
  w4_single (Cell.Flag Sf) = never
  w4_single (Cell.Flag Of) = never
  w4_single (Cell.Reg r) = never
  w4_single (Cell.Operand k) = never
  w4_single Cell.Memory = never
  w4_single Cell.Cc = never
  w4_single Cell.Nothing = never

  unwritten_single : (cell : Cell) → IsSingle (is_left_unwritten i cell)
  unwritten_single (Cell.Operand k) = some_of (range_with_len 0 (size_at i k)) (λ b. one_fact (Unwritten k b))
  unwritten_single (Cell.Reg r) = never
  unwritten_single (Cell.Flag f) = never
  unwritten_single Cell.Memory = never
  unwritten_single Cell.Cc = never
  unwritten_single Cell.Nothing = never

  by_end_single : (rule : Rule) (cell : Cell) → IsSingle (breaks_by_end i s rule cell)
  by_end_single Rule.W1 cell = w1_single cell
  by_end_single Rule.W2 cell = w2_single cell
  by_end_single Rule.W3 cell = w3_single cell
  by_end_single Rule.W4 cell = w4_single cell
  by_end_single Rule.R2 cell = unwritten_single cell
  by_end_single Rule.R1 cell = never
  by_end_single Rule.R3 cell = never
  by_end_single Rule.U3 cell = never
  by_end_single Rule.M1 cell = never
  by_end_single Rule.M2 cell = never
  by_end_single Rule.U1 cell = never
  by_end_single Rule.U2 cell = never
  by_end_single Rule.U4 cell = never
  by_end_single Rule.S1 cell = never
  by_end_single Rule.S2 cell = never
  by_end_single Rule.S3 cell = never
  by_end_single Rule.J1 cell = never
  by_end_single Rule.K1 cell = never
  by_end_single Rule.K2 cell = never

  pub end_single : (x : Violation) → IsSingle (breaks_at_end i s x)
  end_single x =
      either (by_end_single x.rule x.cell) (by_use_single (used_at_end i s) used_at_end_single x.rule x.cell x.other)
