-- What breaks a rule with more told, at an instruction or at the end, breaks one with less told, of the same facts.
use Rattle.std.proofs.Common.{◌≡◌, ◌⊎◌, inl, inr, ℕ, ◌+◌, ◌&&◌, ◌||◌, not, Bool, true, List, map, refl, sym, ◌∙◌, ap}
use Rattle.std.specs.List.{range_with_len, list_any}
use Rattle.std.proofs.lemmas.Bool.{and_parts, and_from, or_cases, or_left, or_right}
use Rattle.asm_core.specs.Reg.{reg_number}
use Rattle.asm_core.specs.declared.sym.Sym.{Sym}
use Rattle.asm_core.specs.declared.shape.Shape.{Shape}
use Rattle.asm_core.specs.declared.interface.Interface.{Interface}
use Rattle.asm_core.specs.declared.finding.Rule.{Rule}
use Rattle.asm_core.specs.declared.finding.Cell.{Cell}
use Rattle.blk_deps.specs.Cells.{flag_cell, place_cells}
use Rattle.blk_deps.specs.Facts.{Facts}
use Rattle.blk_deps.specs.Operands.{is_input_place, name_of}
use Rattle.blk_deps.specs.Rules.{flags, all_places, same_cell, used_at_line, is_undeclared, used_at_end, breaks_by_use, breaks_by_access, breaks_at_line, is_changed, breaks_w1, breaks_w2, breaks_w3, is_left_unwritten, breaks_by_end, breaks_at_end, asks_byte_of, breaks_u2}
use Rattle.blk_deps.specs.declared.violation.Violation.{Violation}
use Rattle.blk_deps.specs.declared.fact.Property.TheVariants.{NotEntryOf}
use Rattle.blk_deps.specs.declared.fact.Fact.TheVariants.{Here, Has, Unwritten}
use Rattle.blk_patch.specs.Upward.{TellsMore, StandsFor}
use Rattle.blk_patch.proofs.UpwardTests.{Up, same_up, and_up, or_up, not_up, any_flat_up}
use Rattle.blk_patch.proofs.UpwardPlaces.{input_place_same}
use Rattle.blk_patch.proofs.UpwardUses.{named_same, used_line_same, undeclared_up, used_end_up, use_up}
use Rattle.blk_patch.proofs.UpwardAccesses.{IsFound, access_up}

-- a byte name that may be missing
pub text_up : (less shares : ℕ → ℕ → Bool) → ((p q : ℕ) → Up (less p q) (shares p q)) → (line : Sym) (cell : Cell)
    → Up (breaks_u2 less line cell) (breaks_u2 shares line cell)
text_up less shares sharing line (Cell.Operand k) =
    and_up (list_any (asks_byte_of k) line.args) (less (7 + k) 4 || (less (7 + k) 5 || less (7 + k) 6))
    (list_any (asks_byte_of k) line.args) (shares (7 + k) 4 || (shares (7 + k) 5 || shares (7 + k) 6)) (λ is. is)
    (or_up (less (7 + k) 4) (less (7 + k) 5 || less (7 + k) 6) (shares (7 + k) 4)
    (shares (7 + k) 5 || shares (7 + k) 6) (sharing (7 + k) 4)
    (or_up (less (7 + k) 5) (less (7 + k) 6) (shares (7 + k) 5) (shares (7 + k) 6) (sharing (7 + k) 5)
    (sharing (7 + k) 6)))
text_up less shares sharing line cell = λ is. is

module _ (old new : Interface) (live fewer : List Shape) (s : Shape) (more : TellsMore old new live fewer s) where
  pub line_up : (depth : ℕ) (line : Sym) (b : Violation) (facts : Facts)
      → breaks_at_line new fewer s depth line b facts ≡ true
      → IsFound old b (λ c. breaks_at_line old live s depth line c facts)
  line_up depth line b facts is =
      by (or_cases (breaks_by_access new fewer depth line b.rule b.cell && facts Here)
      (breaks_by_use new s b.rule b.cell b.other (used_at_line new s depth line facts)) is)
    where
      by : ((breaks_by_access new fewer depth line b.rule b.cell && facts Here) ≡ true)
          ⊎ (breaks_by_use new s b.rule b.cell b.other (used_at_line new s depth line facts) ≡ true)
          → IsFound old b (λ c. breaks_at_line old live s depth line c facts)
      by (inl access) =
          let parts = and_parts (breaks_by_access new fewer depth line b.rule b.cell) (facts Here) access in
          let found = access_up old new live fewer s more depth line b b.rule refl parts.0 in
          record {
            violation = found.violation;
            stands = found.stands;
            breaks =
                or_left
                (breaks_by_access old live depth line (found.violation).rule (found.violation).cell && facts Here)
                (breaks_by_use old s (found.violation).rule (found.violation).cell (found.violation).other
                (used_at_line old s depth line facts))
                (and_from (breaks_by_access old live depth line (found.violation).rule (found.violation).cell)
                (facts Here)
                found.breaks parts.1);
          }
      by (inr used) = record {
        violation = b;
        stands = StandsFor.itself;
        breaks = or_right (breaks_by_access old live depth line b.rule b.cell && facts Here)
            (breaks_by_use old s b.rule b.cell b.other (used_at_line old s depth line facts))
            (use_up old new live fewer s more (used_at_line new s depth line facts)
            (used_at_line old s depth line facts)
            (λ property. same_up (used_at_line new s depth line facts property)
            (used_at_line old s depth line facts property)
            (used_line_same old new live fewer s more depth line facts property))
            b.rule b.cell b.other used);
      }

  -- ---- the end

  w1_up : (cell : Cell) (facts : Facts) → Up (breaks_w1 new s cell facts) (breaks_w1 old s cell facts)
  w1_up (Cell.Reg r) facts =
      and_up (is_undeclared new s (reg_number r)) (is_changed facts (place_cells (reg_number r)))
      (is_undeclared old s (reg_number r)) (is_changed facts (place_cells (reg_number r)))
      (undeclared_up old new live fewer s more (reg_number r)) (λ is. is)
  w1_up cell facts = λ is. is

  w2_up : (cell : Cell) (facts : Facts) → Up (breaks_w2 new s cell facts) (breaks_w2 old s cell facts)
  w2_up cell facts =
      any_flat_up (λ c. facts (Has c (NotEntryOf c))) place_cells
      (λ p. is_input_place new s p && same_cell (name_of new s p) cell)
      (λ p. is_input_place old s p && same_cell (name_of old s p) cell)
      (λ p. and_up (is_input_place new s p) (same_cell (name_of new s p) cell) (is_input_place old s p)
      (same_cell (name_of old s p) cell)
      (same_up (is_input_place new s p) (is_input_place old s p) (input_place_same old new live fewer s more p))
      (same_up (same_cell (name_of new s p) cell) (same_cell (name_of old s p) cell)
      (named_same old new live fewer s more cell p)))
      all_places

  w3_up : (cell : Cell) (facts : Facts) → Up (breaks_w3 new cell facts) (breaks_w3 old cell facts)
  w3_up Cell.Cc facts =
      and_up (not new.cc) (is_changed facts (map flag_cell flags)) (not old.cc)
      (is_changed facts (map flag_cell flags)) (not_up new.cc old.cc more.flags_clobbered) (λ is. is)
  w3_up cell facts = λ is. is

  unwritten_up : (cell : Cell) (facts : Facts)
      → Up (is_left_unwritten new cell facts) (is_left_unwritten old cell facts)
  unwritten_up (Cell.Operand k) facts is =
      sym (ap (λ size. list_any (λ b. facts (Unwritten k b)) (range_with_len 0 size)) (more.sizes k)) ∙ is
  unwritten_up cell facts is = is

  by_end_up : (rule : Rule) (cell : Cell) (facts : Facts)
      → Up (breaks_by_end new s rule cell facts) (breaks_by_end old s rule cell facts)
  by_end_up Rule.W1 cell facts = w1_up cell facts
  by_end_up Rule.W2 cell facts = w2_up cell facts
  by_end_up Rule.W3 cell facts = w3_up cell facts
  by_end_up Rule.W4 cell facts = λ is. is
  by_end_up Rule.R2 cell facts = unwritten_up cell facts
  by_end_up rule cell facts = λ is. is

  pub end_up : (b : Violation) (facts : Facts) → Up (breaks_at_end new s b facts) (breaks_at_end old s b facts)
  end_up b facts =
      or_up (breaks_by_end new s b.rule b.cell facts)
      (breaks_by_use new s b.rule b.cell b.other (used_at_end new s facts))
      (breaks_by_end old s b.rule b.cell facts)
      (breaks_by_use old s b.rule b.cell b.other (used_at_end old s facts))
      (by_end_up b.rule b.cell facts)
      (use_up old new live fewer s more (used_at_end new s facts) (used_at_end old s facts)
      (used_end_up old new live fewer s more facts) b.rule b.cell b.other)
