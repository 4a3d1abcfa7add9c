use Rattle.std.proofs.Common.{◌≡◌, ◌++◌, drop}
use Rattle.asm_core.specs.Reading.Line.{left_out_from}
use Rattle.att_reader.proofs.reader.left_out.Given as goal

-- those so far and those that are left are all
abbrev pub invariant-loop-n : goal.invariant-loop-n
invariant-loop-n l = l.numbers ++ left_out_from l.n (drop l.n l.readings) ≡ left_out_from 0 l.readings
