use Rattle.std.proofs.Common.{◌≡◌, ◌+◌, ◌++◌, drop}
use Rattle.asm_core.specs.Reading.Cut.{instruction_count, labels_from}
use Rattle.asm_core.specs.Reading.Line.{labels_of}
use Rattle.att_reader.specs.Raws.{raws_as}
use Rattle.att_reader.specs.Labels.{labelled}
use Rattle.att_reader.proofs.label.labels.Given as goal

-- those so far and those that are left are all
abbrev pub invariant-loop-raw : goal.invariant-loop-raw
invariant-loop-raw l = record {
  few : l.before + instruction_count (raws_as (drop l.raw-index l.raws)) ≡ instruction_count (raws_as l.raws);
  whole : l.labels ++ labelled (labels_from l.before (raws_as (drop l.raw-index l.raws))) ≡ labels_of (raws_as l.raws);
}
