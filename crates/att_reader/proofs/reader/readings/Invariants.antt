use Rattle.std.proofs.Common.{◌≡◌, ◌+◌, ◌++◌, map, drop}
use Rattle.asm_core.specs.Reading.Cut.{instruction_count}
use Rattle.asm_core.specs.Reading.Line.{readings_from}
use Rattle.asm_core.specs.Reading.Names.{names}
use Rattle.att_reader.specs.Raws.{raws_as}
use Rattle.att_reader.specs.Text.{defined}
use Rattle.att_reader.proofs.reader.readings.Given as goal

-- those so far and those that are left are all
abbrev pub invariant-loop-raw : goal.invariant-loop-raw
invariant-loop-raw l = record {
  few : l.inst + instruction_count (raws_as (drop l.raw-index l.raws)) ≡ instruction_count (raws_as l.raws);
  whole : l.readings.items ++ readings_from names (map defined l.labels) l.inst (raws_as (drop l.raw-index l.raws)) ≡ readings_from names (map defined l.labels) 0 (raws_as l.raws);
}
