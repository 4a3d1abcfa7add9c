-- What the parts of every statement keep beyond their types.
use Rattle.std.specs.Prelude.{◌≡◌, ℕ, ◌+◌, ◌≤◌, ◌==◌, List, length, Bool, slice_index, count_by}
use Rattle.asm_core.specs.declared.statement.Part.{Part}
use Rattle.asm_core.specs.declared.statement.Parts.{Parts}
use Rattle.asm_core.specs.declared.statement.Body.{Body}

-- the constraint begins with `+`
abbrev pub is_in_out : Part → Bool
is_in_out part = slice_index part.constraint.bytes 0 == 43

-- The operands, an output that is read too counted twice; GCC takes at most 30 of them ("Extended Asm").
abbrev pub operand_count : List Part → List Part → ℕ
operand_count outputs inputs = length outputs + count_by is_in_out outputs + length inputs

pub record IsParts (parts : Parts) : Type 0 where
  pub few : operand_count parts.outputs parts.inputs ≤ 30
  -- each byte of the template has its offset in the file
  pub placed : length parts.template.at ≡ length parts.template.bytes

-- so do those of a statement that has parts
abbrev pub IsBody : Body → Type 0
IsBody (Body.Parts parts) = IsParts parts
IsBody (Body.Outside mark) = Unit {0}
