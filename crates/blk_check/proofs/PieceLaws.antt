-- The pieces of a statement's template.
use Rattle.std.proofs.Common.{◌≡◌, List, length}
use Rattle.std.proofs.lemmas.List.{length-map}
use Rattle.asm_core.specs.Constraint.{name_of, names_of}
use Rattle.asm_core.specs.declared.statement.Part.{Part}

-- each operand has its entry
pub name_count : (parts : List Part) → length (names_of parts) ≡ length parts
name_count parts = length-map parts name_of
