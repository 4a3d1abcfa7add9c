use Rattle.std.proofs.Common.{◌≡◌, ◌++◌, drop}
use Rattle.asm_core.specs.Reading.Line.{targets_from}
use Rattle.att_reader.proofs.reader.targets.Given as goal

-- those so far and those that are left are all
abbrev pub invariant-loop-n : goal.invariant-loop-n
invariant-loop-n l = l.targets.items ++ targets_from l.n (drop l.n l.readings) ≡ targets_from 0 l.readings
