-- Two places in one given register.
use Rattle.std.specs.Prelude.{ℕ, ◌==◌, not, Bool, false, Option, None, Some}
use Rattle.asm_core.specs.Reg.{reg_number}
use Rattle.asm_core.specs.Lists.{IsMember}
use Rattle.asm_core.specs.Placement.{IsAllowed, tie_root}
use Rattle.asm_core.specs.Roomy.{place_registers, ShareRegister}
use Rattle.asm_core.specs.declared.reg.Reg.{Reg}
use Rattle.asm_core.specs.declared.sym.Place.{Place}
use Rattle.asm_core.specs.declared.shape.Shape.{Shape}
use Rattle.asm_core.specs.declared.interface.Interface.{Interface}
use Rattle.asm_core.specs.declared.placement.Placement.{Placement}

-- the place is another register
abbrev pub is_other : Place → Reg → Bool
is_other (Place.Reg own) r = not (reg_number own == reg_number r)
is_other (Place.Operand k) r = false

-- the operand where the place is, if it is one
abbrev pub operand_of : Interface → Shape → Place → Option ℕ
operand_of i s (Place.Reg r) = None
operand_of i s (Place.Operand k) = Some (tie_root i s k)

-- an allowed placement in which both places use the register
pub record IsSharedIn (i : Interface) (s : Shape) (p q : Place) (r : Reg) (at : Placement) : Type 0 where
  pub allowed : IsAllowed i s at
  pub first : IsMember r (place_registers at p)
  pub second : IsMember r (place_registers at q)

-- some allowed placement has both places in that register
pub record CanShareIn (i : Interface) (s : Shape) (p q : Place) (r : Reg) : Type 0 where
  pub at : Placement
  pub shared : IsSharedIn i s p q r at

-- some allowed placement has both places in one register
pub record CanShare (i : Interface) (s : Shape) (p q : Place) : Type 0 where
  pub at : Placement
  pub shared : ShareRegister i s p q at
