-- A patch only tightens what the statement tells the compiler. This project's own.
use Rattle.std.specs.Prelude.{◌≡◌, ℕ, true, IsTrue, Some, slice_get}
use Rattle.asm_core.specs.Reg.{IsIn}
use Rattle.asm_core.specs.Placement.{IsAllowed, is_input, is_output}
use Rattle.asm_core.specs.declared.reg.Reg.{Reg}
use Rattle.asm_core.specs.declared.shape.Shape.{Shape}
use Rattle.asm_core.specs.declared.placement.Placement.{Placement}
use Rattle.asm_core.specs.declared.statement.Statement.{Statement}
use Rattle.asm_core.specs.declared.interface.OperandIface.{OperandIface}
use Rattle.asm_core.specs.declared.interface.Interface.{Interface}
use Rattle.blk_patch.specs.Items.{with_items}
use Rattle.blk_patch.specs.Rounds.{TellsOk}
use Rattle.blk_patch.specs.declared.patches.PatchEnd.{PatchEnd}

-- operand k is an input
pub record IsInputOf (i : Interface) (k : ℕ) : Type 0 where
  pub operand : OperandIface
  pub is_operand : slice_get i.operands k ≡ Some operand
  pub input : IsTrue (is_input operand.role)

-- operand k is an output
pub record IsOutputOf (i : Interface) (k : ℕ) : Type 0 where
  pub operand : OperandIface
  pub is_operand : slice_get i.operands k ≡ Some operand
  pub output : IsTrue (is_output operand.role)

-- The new interface leaves the compiler no placement that the old one didn't, and declares all that the old one does.
pub record IsTighter (old new : Interface) : Type 0 where
  pub placements : (s : Shape) (p : Placement) → IsAllowed new s p → IsAllowed old s p
  pub inputs : (k : ℕ) → IsInputOf old k → IsInputOf new k
  pub outputs : (k : ℕ) → IsOutputOf old k → IsOutputOf new k
  pub clobbers : (r : Reg) → IsIn old.clobbers r → IsIn new.clobbers r
  pub cc : IsTrue old.cc → IsTrue new.cc
  pub memory : IsTrue old.memory → IsTrue new.memory

-- the statement is accepted with that interface, which is tighter
pub record IsMended (s : Statement) (old new : Interface) : Type 0 where
  pub tighter : IsTighter old new
  pub accepted : TellsOk s new true

-- that is so of a patch
abbrev pub OnlyTightens : Statement → Interface → PatchEnd → Type 0
OnlyTightens s i (PatchEnd.Patched items) = IsMended s i (with_items items i)
OnlyTightens s i end = Unit {0}
