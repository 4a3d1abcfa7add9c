use Rattle.std.proofs.Common.{◌≡◌, ◌≤◌, ◌+◌, ◌-◌, length}
use Rattle.asm_core.specs.Reading.Cut.{raws_of}
use Rattle.asm_core.specs.Reading.Operands.{atom_code}
use Rattle.att_reader.specs.Raws.{cut_with}
use Rattle.att_reader.proofs.CutLemmas.{left_from}
use Rattle.att_reader.proofs.cut.raws.Given as goal

-- the statements that are left give what all give
abbrev pub invariant-loop-start : goal.invariant-loop-start
invariant-loop-start l = record {
  within : l.start ≤ length l.text.atoms.now + 1;
  whole : cut_with l.cut (left_from l.start l.text.atoms.now) ≡ raws_of atom_code l.text.atoms.now;
}

abbrev pub decreases-loop-start : goal.decreases-loop-start
decreases-loop-start l = length l.text.atoms.now + 1 - l.start
