use Rattle.std.proofs.Common.{◌≡◌, ◌≤◌, ◌-◌, length}
use Rattle.c_decls.specs.Recovery.{uncovered_at}
use Rattle.c_decls.proofs.RecoveryLemmas.{uncovered_from}
use Rattle.c_decls.proofs.recovery.uncovered_at.Given as goal

-- what is left gives what the whole gives
abbrev pub invariant-loop-i : goal.invariant-loop-i
invariant-loop-i l = (l.first ≤ l.i) × (uncovered_from l.source l.i l.within ≡ uncovered_at l.source l.first)

abbrev pub decreases-loop-i : goal.decreases-loop-i
decreases-loop-i l = length l.source.tokens - l.i
