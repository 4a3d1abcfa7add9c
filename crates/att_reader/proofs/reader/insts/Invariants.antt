use Rattle.std.proofs.Common.{◌≡◌, map, take}
use Rattle.asm_core.specs.Reading.Line.{inst_of_reading}
use Rattle.att_reader.proofs.reader.insts.Given as goal

-- those of the first readings
abbrev pub invariant-loop-reading : goal.invariant-loop-reading
invariant-loop-reading l = l.insts ≡ map (inst_of_reading l.count) (take l.reading-index l.readings)
