use Rattle.std.proofs.Common.{◌≡◌, ◌≤◌, ◌-◌, length}
use Rattle.c_decls.specs.Ends.{behind_type}
use Rattle.c_decls.proofs.ends.behind_type.Given as goal

-- what is left gives what the whole gives
abbrev pub invariant-loop-i : goal.invariant-loop-i
invariant-loop-i l = (l.first ≤ l.i) × (behind_type l.source l.i ≡ behind_type l.source l.first)

abbrev pub decreases-loop-i : goal.decreases-loop-i
decreases-loop-i l = length l.source.tokens - l.i
