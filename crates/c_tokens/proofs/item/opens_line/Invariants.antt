use Rattle.std.proofs.Common.{◌≡◌, ◌≤◌}
use Rattle.c_tokens.specs.Items.{opens_line}
use Rattle.c_tokens.proofs.item.opens_line.Given as goal

-- what stands before gives what the whole gives
abbrev pub invariant-loop-from : goal.invariant-loop-from
invariant-loop-from l = (l.from ≤ l.i) × (opens_line l.text l.from ≡ opens_line l.text l.i)

abbrev pub decreases-loop-from : goal.decreases-loop-from
decreases-loop-from l = l.from
