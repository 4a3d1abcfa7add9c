-- The instructions of a template under a placement.
pub mod Chosen
pub mod Cut
pub mod Facts
pub mod Line
pub mod Names
pub mod Operands
pub mod Placed
pub mod Text
pub mod Unasked
pub mod UnderShape
pub mod Written
use Rattle.std.specs.Prelude.{◌≡◌, ℕ, List, length, map, Some, Ok, slice_index}
use Rattle.asm_core.specs.Lists.{IsMember}
use Rattle.asm_core.specs.Expansion.{expansion_of}
use Rattle.asm_core.specs.Reading.Names.{names}
use Rattle.asm_core.specs.Reading.Text.{TextCode, code_of_text}
use Rattle.asm_core.specs.declared.reading.Sign.{Sign}
use Rattle.asm_core.specs.declared.lines.JumpTarget.{JumpTarget}
use Rattle.asm_core.specs.declared.piece.Piece.{Piece}
use Rattle.asm_core.specs.declared.shape.Shape.{Shape}
use Rattle.asm_core.specs.declared.placement.Placement.{Placement}
use Rattle.asm_core.specs.declared.interface.Interface.{Interface}
use Rattle.asm_core.specs.declared.inst.Code.{Code}

-- Code as a text says it: every instruction is read, and each jump has its label.
pub record IsCodeOf (text : TextCode) (code : Code) : Type 0 where
  pub insts : text.insts ≡ map Some code.insts
  pub count : length code.goals ≡ length code.insts
  pub goals : (t : JumpTarget) → IsMember t text.targets → t.goal ≡ Some (slice_index code.goals t.inst)

-- Code that the assembler sees: the text of the template's pieces under the placement, `unique` being the number that `%=` gives.
pub record IsCodeUnder (i : Interface) (s : Shape) (p : Placement) (unique : ℕ) (pieces : List Piece) (code : Code) : Type 0 where
  pub text : List Sign
  pub is_text : expansion_of i p unique pieces ≡ Ok text
  pub is_code : IsCodeOf (code_of_text names i s text) code
