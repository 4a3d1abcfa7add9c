-- The one placement that is taken where any would do, and placements in which two places meet.
use Rattle.std.specs.Prelude.{◌≡◌, ℕ, ◌+◌, ◌*◌, ◌<◌, ◌≤◌, ℤ, pos, List, [], ◌∷◌, ◌++◌, None, Some, slice_get}
use Rattle.asm_core.specs.Reg.{reg_number}
use Rattle.asm_core.specs.Lists.{IsMember}
use Rattle.asm_core.specs.Placement.{spot_of, value_registers, address_registers, HasOperand, IsAllowed, IsRoomy}
use Rattle.asm_core.specs.declared.reg.Reg.{Reg}
use Rattle.asm_core.specs.declared.sym.Place.{Place}
use Rattle.asm_core.specs.declared.shape.Kind.{Kind}
use Rattle.asm_core.specs.declared.shape.Shape.{Shape}
use Rattle.asm_core.specs.declared.interface.AltIface.{AltIface}
use Rattle.asm_core.specs.declared.interface.OperandIface.{OperandIface}
use Rattle.asm_core.specs.declared.interface.Interface.{Interface}
use Rattle.asm_core.specs.declared.placement.Spot.{Spot}
use Rattle.asm_core.specs.declared.placement.Placement.{Placement}

-- where a register stands in their order; the pair stands behind them
abbrev pub order_of : Spot → ℕ
order_of (Spot.Register r) = reg_number r
order_of Spot.Pair = 7
order_of (Spot.Memory form) = 0
order_of (Spot.Number n) = 0

-- the memory of operand k: a number of its own
abbrev pub own_memory : ℕ → Spot
own_memory k = Spot.Memory (record { disp = pos (1048576 * (k + 1)); base = None; index = None })

-- roomy, memory at its own number, numbers known or the least in range; and no roomy placement with the same registers for the operands
-- before k has an earlier one for k. A tied operand is where its output is.
pub record IsLeastRoomy (i : Interface) (s : Shape) (p : Placement) : Type 0 where
  pub roomy : IsRoomy i s p
  pub memory : (k : ℕ) (o : OperandIface) (alt : AltIface) → HasOperand i s k o alt Kind.Memory → alt.tied ≡ None → spot_of p k ≡ own_memory k
  pub known : (k : ℕ) (o : OperandIface) (alt : AltIface) (n : ℤ) → HasOperand i s k o alt Kind.Number → alt.tied ≡ None → o.known ≡ Some n → spot_of p k ≡ Spot.Number n
  pub lowest : (k : ℕ) (o : OperandIface) (alt : AltIface) (range : ℤ × ℤ) → HasOperand i s k o alt Kind.Number → alt.tied ≡ None → o.known ≡ None → alt.numbers ≡ Some range
      → spot_of p k ≡ Spot.Number range.0
  pub first : (q : Placement) → IsRoomy i s q → (k : ℕ) (o : OperandIface) (alt : AltIface) → HasOperand i s k o alt Kind.Register → alt.tied ≡ None
      → ((j : ℕ) (b : OperandIface) (beside : AltIface) → j < k → HasOperand i s j b beside Kind.Register → spot_of q j ≡ spot_of p j)
      → order_of (spot_of p k) ≤ order_of (spot_of q k)

-- the registers of a place: a register itself, or those of an operand's value and address
abbrev pub place_registers : Placement → Place → List Reg
place_registers p (Place.Reg r) = r ∷ []
place_registers p (Place.Operand k) = value_registers (spot_of p k) ++ address_registers (spot_of p k)

-- an allowed placement in which the two places have a register in common
pub record ShareRegister (i : Interface) (s : Shape) (p q : Place) (at : Placement) : Type 0 where
  pub allowed : IsAllowed i s at
  pub register : Reg
  pub in_first : IsMember register (place_registers at p)
  pub in_second : IsMember register (place_registers at q)

-- a place that is an operand is one of the interface
pub record IsPlaceOf (i : Interface) (p : Place) : Type 0 where
  pub is_operand : (k : ℕ) → p ≡ Place.Operand k → (o : OperandIface) × (slice_get i.operands k ≡ Some o)
