use Rattle.std.proofs.Common.{◌≡◌, ◌-◌, ◌≤◌, false, length, drop}
use Rattle.c_tokens.specs.Ends.{number_end}
use Rattle.c_tokens.proofs.ends.number_end.Given as goal

-- what is left gives what the whole gives
abbrev pub invariant-loop-i : goal.invariant-loop-i
invariant-loop-i l = (l.start ≤ l.i) × (l.i ≤ length l.text) × (number_end l.exponent l.i (drop l.i l.text) ≡ number_end false l.start (drop l.start l.text))

abbrev pub decreases-loop-i : goal.decreases-loop-i
decreases-loop-i l = length l.text - l.i
