use Rattle.std.proofs.Common.{◌≡◌, map, take}
use Rattle.asm_core.specs.Reading.Operands.{atom_code}
use Rattle.att_reader.proofs.elements.codes_of.Given as goal

-- those of the first elements
abbrev pub invariant-loop-atom : goal.invariant-loop-atom
invariant-loop-atom l = l.codes.items ≡ map atom_code (take l.atom-index l.atoms)
