-- What every interface of a statement keeps beyond its types.
use Rattle.std.specs.Prelude.{◌≡◌, ℕ, ◌<◌, ◌≤◌, ℤ, pos, negsuc, ◌≤ℤ◌, length, false, IsTrue, None, Some, slice_get}
use Rattle.asm_core.specs.Placement.{is_output}
use Rattle.asm_core.specs.declared.interface.AltIface.{AltIface}
use Rattle.asm_core.specs.declared.interface.OperandIface.{OperandIface}
use Rattle.asm_core.specs.declared.interface.Interface.{Interface}

-- operand k, and what its alternative a allows
pub record HasAlternative (i : Interface) (k a : ℕ) (o : OperandIface) (alt : AltIface) : Type 0 where
  pub is_operand : slice_get i.operands k ≡ Some o
  pub is_alternative : slice_get o.alts a ≡ Some alt

-- an output without a tie of its own in that alternative
pub record IsUntiedOutput (i : Interface) (k a : ℕ) : Type 0 where
  pub operand : OperandIface
  pub alternative : AltIface
  pub is_there : HasAlternative i k a operand alternative
  pub output : IsTrue (is_output operand.role)
  pub untied : alternative.tied ≡ None

-- the operand is tied to that output: it is an input alone, is not early, and stands behind the output
pub record IsTie (i : Interface) (k a output : ℕ) (o : OperandIface) (alt : AltIface) : Type 0 where
  pub before : output < k
  pub to : IsUntiedOutput i output a
  pub input_alone : is_output o.role ≡ false
  pub not_early : alt.early ≡ false

-- The range has only numbers that an instruction can hold, from -2^31 to 2^32 - 1, and some number may stand there: the known
-- value, or else the lower end of the range.
pub record HasNumber (o : OperandIface) (alt : AltIface) (range : ℤ × ℤ) : Type 0 where
  pub low : negsuc 2147483647 ≤ℤ range.0
  pub high : range.1 ≤ℤ pos 4294967295
  pub least : o.known ≡ None → range.0 ≤ℤ range.1
  pub known : (n : ℤ) → o.known ≡ Some n → (range.0 ≤ℤ n) × (n ≤ℤ range.1)

pub record IsInterface (i : Interface) : Type 0 where
  pub few : length i.operands ≤ 30
  pub counts : (k j : ℕ) (o q : OperandIface) → slice_get i.operands k ≡ Some o → slice_get i.operands j ≡ Some q → length o.alts ≡ length q.alts
  pub ties : (k a output : ℕ) (o : OperandIface) (alt : AltIface) → HasAlternative i k a o alt → alt.tied ≡ Some output → IsTie i k a output o alt
  pub early : (k a : ℕ) (o : OperandIface) (alt : AltIface) → HasAlternative i k a o alt → IsTrue alt.early → IsTrue (is_output o.role)
  pub numbers : (k a : ℕ) (o : OperandIface) (alt : AltIface) (range : ℤ × ℤ) → HasAlternative i k a o alt → alt.numbers ≡ Some range → HasNumber o alt range
  -- a register letter stands for some of the seven registers
  pub registers : (k a : ℕ) (o : OperandIface) (alt : AltIface) → HasAlternative i k a o alt → alt.regs.0 < 128
