-- What the rules say of names of other kinds.
use Rattle.std.proofs.Common.{◌≡◌, ℕ, Bool, false, refl}
use Rattle.asm_core.specs.declared.reg.Reg.{Reg}
use Rattle.asm_core.specs.declared.flag.Flag.{Flag}
use Rattle.asm_core.specs.declared.finding.Cell.{Cell}
use Rattle.asm_core.specs.declared.finding.Rule.{Rule}
use Rattle.asm_core.specs.declared.shape.Shape.{Shape}
use Rattle.asm_core.specs.declared.interface.Interface.{Interface}
use Rattle.blk_deps.specs.Rules.{Used, breaks_r1, breaks_r2, breaks_r3, breaks_by_use}

pub other_r1 : (i : Interface) (s : Shape) (cell : Cell) (used : Used) → ((r : Reg) → cell ≡ Cell.Reg r → ⊥)
    → ((f : Flag) → cell ≡ Cell.Flag f → ⊥) → false ≡ breaks_r1 i s cell used
other_r1 i s (Cell.Reg r) used no_reg no_flag = absurd (no_reg r refl)
other_r1 i s (Cell.Flag f) used no_reg no_flag = absurd (no_flag f refl)
other_r1 i s (Cell.Operand k) used no_reg no_flag = refl
other_r1 i s Cell.Memory used no_reg no_flag = refl
other_r1 i s Cell.Cc used no_reg no_flag = refl
other_r1 i s Cell.Nothing used no_reg no_flag = refl

-- a test of operands alone is false of other names
pub other_cell : (test : Cell → Bool) (cell : Cell) → ((k : ℕ) → cell ≡ Cell.Operand k → ⊥)
    → ((r : Reg) → test (Cell.Reg r) ≡ false) → ((f : Flag) → test (Cell.Flag f) ≡ false) → test Cell.Memory
    ≡ false → test Cell.Cc ≡ false → test Cell.Nothing ≡ false
    → false ≡ test cell
other_cell test (Cell.Operand k) no_operand reg flag memory cc nothing = absurd (no_operand k refl)
other_cell test (Cell.Reg r) no_operand reg flag memory cc nothing = rw (reg r) refl
other_cell test (Cell.Flag f) no_operand reg flag memory cc nothing = rw (flag f) refl
other_cell test Cell.Memory no_operand reg flag memory cc nothing = rw memory refl
other_cell test Cell.Cc no_operand reg flag memory cc nothing = rw cc refl
other_cell test Cell.Nothing no_operand reg flag memory cc nothing = rw nothing refl

pub other_r2 : (i : Interface) (s : Shape) (cell : Cell) (used : Used) → ((k : ℕ) → cell ≡ Cell.Operand k → ⊥)
    → false ≡ breaks_r2 i s cell used
other_r2 i s cell used no_operand = other_cell (λ c. breaks_r2 i s c used) cell no_operand (λ r. refl)
    (λ f. refl) refl refl refl

pub other_r3 : (i : Interface) (s : Shape) (cell : Cell) (used : Used) → ((k : ℕ) → cell ≡ Cell.Operand k → ⊥)
    → (cell ≡ Cell.Nothing → ⊥) → false ≡ breaks_r3 i s cell used
other_r3 i s (Cell.Operand k) used no_operand no_nothing = absurd (no_operand k refl)
other_r3 i s Cell.Nothing used no_operand no_nothing = absurd (no_nothing refl)
other_r3 i s (Cell.Reg r) used no_operand no_nothing = refl
other_r3 i s (Cell.Flag f) used no_operand no_nothing = refl
other_r3 i s Cell.Memory used no_operand no_nothing = refl
other_r3 i s Cell.Cc used no_operand no_nothing = refl

pub other_use : (i : Interface) (s : Shape) (rule : Rule) (cell other : Cell) (used : Used)
    → (rule ≡ Rule.R1 → ⊥) → (rule ≡ Rule.R2 → ⊥) → (rule ≡ Rule.R3 → ⊥) → (rule ≡ Rule.U3 → ⊥) → false
    ≡ breaks_by_use i s rule cell other used
other_use i s Rule.R1 cell other used r1 r2 r3 u3 = absurd (r1 refl)
other_use i s Rule.R2 cell other used r1 r2 r3 u3 = absurd (r2 refl)
other_use i s Rule.R3 cell other used r1 r2 r3 u3 = absurd (r3 refl)
other_use i s Rule.U3 cell other used r1 r2 r3 u3 = absurd (u3 refl)
other_use i s rule cell other used r1 r2 r3 u3 = refl
