use Rattle.std.proofs.Common.{◌≡◌, ◌-◌, ◌≤◌, false, length, drop}
use Rattle.c_tokens.specs.Ends.{literal_end}
use Rattle.c_tokens.proofs.ends.literal_end.Given as goal

-- what is left gives what the whole gives
abbrev pub invariant-loop-i : goal.invariant-loop-i
invariant-loop-i l = (l.start ≤ l.i) × (l.i ≤ length l.text) × (literal_end l.quote l.taken l.i (drop l.i l.text) ≡ literal_end l.quote false l.start (drop l.start l.text))

abbrev pub decreases-loop-i : goal.decreases-loop-i
decreases-loop-i l = length l.text - l.i
