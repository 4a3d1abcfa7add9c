-- What the letters of constraints allow, as far as patches ask it. This project's own.
use Rattle.std.specs.Prelude.{◌≡◌, ◌⊎◌, ℕ, ◌<◌, ◌++◌, false, Some, slice_get}
use Rattle.asm_core.specs.WellFormed.{HasAlternative}
use Rattle.asm_core.specs.declared.statement.Part.{Part}
use Rattle.asm_core.specs.declared.statement.Parts.{Parts}
use Rattle.asm_core.specs.declared.statement.Body.{Body}
use Rattle.asm_core.specs.declared.interface.AltIface.{AltIface}
use Rattle.asm_core.specs.declared.interface.OperandIface.{OperandIface}
use Rattle.asm_core.specs.declared.interface.Interface.{Interface}
use Rattle.blk_patch.specs.Suggested.{has_high_letter}

-- Where no letter of an operand's constraint but `r` allows a register without byte names, each alternative allows
-- registers with byte names alone, or all seven.
pub record HasLetters (i : Interface) (body : Body) : Type 0 where
  pub each : (parts : Parts) (k a : ℕ) (part : Part) (o : OperandIface) (alt : AltIface)
      → body ≡ Body.Parts parts → slice_get (parts.outputs ++ parts.inputs) k ≡ Some part
      → has_high_letter part.constraint.bytes ≡ false → HasAlternative i k a o alt
      → (alt.regs.0 < 16) ⊎ (alt.regs.0 ≡ 127)
