use Rattle.std.proofs.Common.{◌≡◌, ◌++◌, drop}
use Rattle.asm_core.specs.Reading.Line.{named_of}
use Rattle.att_reader.specs.Named.{BodiesBelow}
use Rattle.att_reader.specs.Raws.{raws_as}
use Rattle.att_reader.proofs.named.named.Given as goal

-- those so far and those that are left are all
abbrev pub invariant-loop-raw : goal.invariant-loop-raw
invariant-loop-raw l = record {
  below : BodiesBelow 32 (raws_as (drop l.raw-index l.raws));
  whole : l.named.items ++ named_of (raws_as (drop l.raw-index l.raws)) ≡ named_of (raws_as l.raws);
}
