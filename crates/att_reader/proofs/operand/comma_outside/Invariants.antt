use Rattle.std.proofs.Common.{◌≡◌, ◌≤◌, ◌+◌, ◌-◌, length, drop, false}
use Rattle.asm_core.specs.Reading.Operands.{comma_outside}
use Rattle.att_reader.proofs.operand.comma_outside.Given as goal

-- what is left gives what the whole gives
abbrev pub invariant-loop-i : goal.invariant-loop-i
invariant-loop-i l =
    (l.i ≤ length l.codes) × (l.i + comma_outside l.inside (drop l.i l.codes) ≡ comma_outside false l.codes)

abbrev pub decreases-loop-i : goal.decreases-loop-i
decreases-loop-i l = length l.codes - l.i
