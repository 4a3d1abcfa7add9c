use Rattle.std.proofs.Common.{◌≡◌, map, drop}
use Rattle.asm_core.specs.Reading.Chosen.{class_of, first_choice}
use Rattle.att_reader.specs.Table.{row_of}
use Rattle.att_reader.proofs.chosen.first_choice.Given as goal

-- the rows that are left give what all give
abbrev pub invariant-loop-entry : goal.invariant-loop-entry
invariant-loop-entry l =
    first_choice l.name l.suffix (map class_of l.operands) (map row_of (drop l.entry-index l.entries))
    ≡ first_choice l.name l.suffix (map class_of l.operands) (map row_of l.entries)
