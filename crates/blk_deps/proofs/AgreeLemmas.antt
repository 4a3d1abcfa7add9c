-- The rules on what is used ask what it depends on alone.
use Rattle.std.proofs.Common.{◌≡◌, ℕ, ◌&&◌, ◌||◌, nat_lt, List, Bool, IsTrue, refl, ap}
use Rattle.std.specs.List.{list_any}
use Rattle.asm_core.specs.Reg.{reg_number}
use Rattle.asm_core.specs.Flag.{flag_number}
use Rattle.asm_core.specs.declared.shape.Shape.{Shape}
use Rattle.asm_core.specs.declared.interface.Interface.{Interface}
use Rattle.asm_core.specs.declared.finding.Rule.{Rule}
use Rattle.asm_core.specs.declared.finding.Cell.{Cell}
use Rattle.blk_deps.specs.Cells.{flag_cell, place_cells}
use Rattle.blk_deps.specs.Operands.{is_lone, is_output_byte, is_byte_above}
use Rattle.blk_deps.specs.Fits.{is_dependence}
use Rattle.blk_deps.specs.Rules.{Used, uses_entry_of, cells_named, places_named, breaks_r1, breaks_r2, breaks_r3, breaks_u3, breaks_by_use}
use Rattle.blk_deps.specs.declared.fact.Provenance.TheVariants.{EntryOf, Old, Undefined}
use Rattle.blk_deps.specs.declared.fact.Property.{Property}
use Rattle.blk_deps.specs.declared.fact.Property.TheVariants.{ComesFrom, Pair}
use Rattle.blk_deps.proofs.AnyLaws.{any_same}

pub record Agree (one other : Used) : Type 0 where
  pub each : (property : Property) → IsTrue (is_dependence property) → one property ≡ other property

both_same : (a b c d : Bool) → a ≡ b → c ≡ d → (a || c) ≡ (b || d)
both_same a b c d first second = rw (first, second) refl

entry_same : (one other : Used) → Agree one other → (cells : List ℕ) → uses_entry_of one cells
    ≡ uses_entry_of other cells
entry_same one other agree cells = any_same (λ c. one (ComesFrom (EntryOf c))) (λ c. other (ComesFrom (EntryOf c)))
    (λ c. agree.each (ComesFrom (EntryOf c)) refl) cells

r1_same : (i : Interface) (s : Shape) (cell : Cell) (one other : Used) → Agree one other → breaks_r1 i s cell one
    ≡ breaks_r1 i s cell other
r1_same i s (Cell.Reg r) one other agree = ap (λ b. is_lone i s (reg_number r) && b) (entry_same one other agree
    (place_cells (reg_number r)))
r1_same i s (Cell.Flag f) one other agree = ap (λ b. nat_lt (flag_number f) 6 && b) (agree.each (ComesFrom (EntryOf
    (flag_cell f))) refl)
r1_same i s (Cell.Operand k) one other agree = refl
r1_same i s Cell.Memory one other agree = refl
r1_same i s Cell.Cc one other agree = refl
r1_same i s Cell.Nothing one other agree = refl

r2_same : (i : Interface) (s : Shape) (cell : Cell) (one other : Used) → Agree one other → breaks_r2 i s cell one
    ≡ breaks_r2 i s cell other
r2_same i s (Cell.Operand k) one other agree = both_same _ _ _ _ (entry_same one other agree
    (cells_named i s is_output_byte (Cell.Operand k))) (agree.each (ComesFrom (Old k)) refl)
r2_same i s (Cell.Reg r) one other agree = refl
r2_same i s (Cell.Flag f) one other agree = refl
r2_same i s Cell.Memory one other agree = refl
r2_same i s Cell.Cc one other agree = refl
r2_same i s Cell.Nothing one other agree = refl

r3_same : (i : Interface) (s : Shape) (cell : Cell) (one other : Used) → Agree one other → breaks_r3 i s cell one
    ≡ breaks_r3 i s cell other
r3_same i s (Cell.Operand k) one other agree = entry_same one other agree (cells_named i s is_byte_above
    (Cell.Operand k))
r3_same i s Cell.Nothing one other agree = agree.each (ComesFrom Undefined) refl
r3_same i s (Cell.Reg r) one other agree = refl
r3_same i s (Cell.Flag f) one other agree = refl
r3_same i s Cell.Memory one other agree = refl
r3_same i s Cell.Cc one other agree = refl

u3_same : (i : Interface) (s : Shape) (cell second : Cell) (one other : Used) → Agree one other
    → breaks_u3 i s cell second one ≡ breaks_u3 i s cell second other
u3_same i s cell second one other agree =
    any_same (λ d. list_any (λ u. one (Pair d u)) (places_named i s second)) (λ d. list_any (λ u. other (Pair d u))
    (places_named i s second))
    (λ d. any_same (λ u. one (Pair d u)) (λ u. other (Pair d u)) (λ u. agree.each (Pair d u) refl)
    (places_named i s second))
    (places_named i s cell)

pub use_same : (i : Interface) (s : Shape) (rule : Rule) (cell second : Cell) (one other : Used) → Agree one other
    → breaks_by_use i s rule cell second one ≡ breaks_by_use i s rule cell second other
use_same i s Rule.R1 cell second one other agree = r1_same i s cell one other agree
use_same i s Rule.R2 cell second one other agree = r2_same i s cell one other agree
use_same i s Rule.R3 cell second one other agree = r3_same i s cell one other agree
use_same i s Rule.U3 cell second one other agree = u3_same i s cell second one other agree
use_same i s rule cell second one other agree = refl
