use Rattle.std.proofs.Common.{◌≡◌, ◌+◌, ◌≤◌, drop}
use Rattle.asm_core.specs.Reading.Cut.{instruction_count}
use Rattle.att_reader.specs.Raws.{raws_as}
use Rattle.att_reader.proofs.places.instruction_count.Given as goal

-- those so far and those that are left are all
abbrev pub invariant-loop-raw : goal.invariant-loop-raw
invariant-loop-raw l = record {
  few : l.count ≤ l.raw-index;
  whole : l.count + instruction_count (raws_as (drop l.raw-index l.raws)) ≡ instruction_count (raws_as l.raws);
}
