-- What an accepted statement leaves as it was.
use Rattle.std.specs.Prelude.{◌≡◌, ◌⊎◌, ℕ, ◌+◌, ◌%◌, ◌^◌, ◌<◌, List, IsTrue, None, Some, slice_get}
use Rattle.asm_core.specs.Lists.{IsMember}
use Rattle.asm_core.specs.Reg.{IsIn}
use Rattle.asm_core.specs.Placement.{spot_of, value_registers, is_output, IsAllowed}
use Rattle.asm_core.specs.Shape.{shapes_of}
use Rattle.asm_core.specs.Machine.{Location, Keeps, covers}
use Rattle.asm_core.specs.Reading.{IsCodeUnder}
use Rattle.asm_core.specs.Run.{Outcome, run_of}
use Rattle.asm_core.specs.Entry.{IsEntry, HasObject}
use Rattle.asm_core.specs.declared.reg.Reg.{Reg}
use Rattle.asm_core.specs.declared.flag.Flag.{Flag}
use Rattle.asm_core.specs.declared.flag.Flag.TheVariants.{Df}
use Rattle.asm_core.specs.declared.shape.Shape.{Shape}
use Rattle.asm_core.specs.declared.inst.Code.{Code}
use Rattle.asm_core.specs.declared.piece.Piece.{Piece}
use Rattle.asm_core.specs.declared.interface.OperandIface.{OperandIface}
use Rattle.asm_core.specs.declared.interface.Interface.{Interface}
use Rattle.asm_core.specs.declared.placement.Placement.{Placement}
use Rattle.asm_core.specs.declared.machine.Range.{Range}
use Rattle.asm_core.specs.declared.machine.Machine.{Machine}

-- some output is in the register
pub record HoldsOutput (i : Interface) (p : Placement) (r : Reg) : Type 0 where
  pub number : ℕ
  pub operand : OperandIface
  pub is_operand : slice_get i.operands number ≡ Some operand
  pub output : IsTrue (is_output operand.role)
  pub here : IsMember r (value_registers (spot_of p number))

-- the address lies in the object of an output
pub record InOutputObject (i : Interface) (s : Shape) (p : Placement) (entry : Machine) (a : ℕ) : Type 0 where
  pub number : ℕ
  pub operand : OperandIface
  pub address : ℕ
  pub offset : ℕ
  pub object : HasObject i s p entry number operand address
  pub output : IsTrue (is_output operand.role)
  pub within : offset < operand.size
  pub here : a ≡ (address + offset) % 2 ^ 32

-- the address lies in a range without an owner
pub record InUnowned (rs : List Range) (a : ℕ) : Type 0 where
  pub range : Range
  pub is_range : IsMember range rs
  pub unowned : range.owner ≡ None
  pub here : IsTrue (covers range a)

-- memory that the statement says it writes: the objects of outputs and, with `memory`, whatever no operand owns
abbrev pub MayWrite : Interface → Shape → Placement → Machine → ℕ → Type 0
MayWrite i s p entry a = InOutputObject i s p entry a ⊎ (IsTrue i.memory × InUnowned entry.ranges a)

-- the six flags may change where `cc` is declared, DF never
abbrev pub FlagMayChange : Interface → Flag → Type 0
FlagMayChange i Df = ⊥
FlagMayChange i f = IsTrue i.cc

-- what may have changed at the end
abbrev pub MayChange : Interface → Shape → Placement → Machine → Location → Type 0
MayChange i s p entry (Location.Register r) = HoldsOutput i p r ⊎ IsIn i.clobbers r
MayChange i s p entry (Location.FlagBit f) = FlagMayChange i f
MayChange i s p entry (Location.Byte a) = MayWrite i s p entry a
MayChange i s p entry Location.Esp = ⊥

-- what may have changed on the way, where nobody sees registers and flags
abbrev pub MayDiffer : Interface → Shape → Placement → Machine → Location → Type 0
MayDiffer i s p entry (Location.Byte a) = MayWrite i s p entry a
MayDiffer i s p entry l = Unit {0}

abbrev pub IsFramed : Interface → Shape → Placement → Machine → Outcome → Type 0
IsFramed i s p entry (Outcome.Ended m) = Keeps (MayChange i s p entry) entry m
IsFramed i s p entry (Outcome.Going m) = Keeps (MayDiffer i s p entry) entry m
IsFramed i s p entry (Outcome.Failed fault m) = Keeps (MayDiffer i s p entry) entry m

-- From every entry under the placement, whatever undefined bits and outside words come, and after every number of steps, only
-- declared outputs and clobbers have changed.
pub record RunsFramed (i : Interface) (s : Shape) (p : Placement) (code : Code) : Type 0 where
  pub each : (entry : Machine) (n : ℕ) (choices : List ℕ) (outside : List (List ℕ)) → IsEntry i s p entry → IsFramed i s p entry (run_of code n choices outside entry)

-- Under every allowed placement of every shape the statement's text exists, each of its instructions is read, and the code that
-- it is changes only declared outputs and clobbers.
pub record KeepsFrame (i : Interface) (pieces : List Piece) : Type 0 where
  pub each : (s : Shape) (p : Placement) (unique : ℕ) → IsMember s (shapes_of i) → IsAllowed i s p → unique < 2 ^ 32
      → (code : Code) × IsCodeUnder i s p unique pieces code × RunsFramed i s p code
