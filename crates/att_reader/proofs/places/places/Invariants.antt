use Rattle.std.proofs.Common.{◌≡◌, ◌++◌, drop}
use Rattle.asm_core.specs.Reading.Line.{places_of}
use Rattle.att_reader.specs.Raws.{raws_as}
use Rattle.att_reader.proofs.places.places.Given as goal

-- those so far and those that are left are all
abbrev pub invariant-loop-raw : goal.invariant-loop-raw
invariant-loop-raw l = l.places.items ++ places_of (raws_as (drop l.raw-index l.raws)) ≡ places_of (raws_as l.raws)
