use Rattle.register_search.specs.Settling.{IsTakenByRivals}
use Rattle.register_search.proofs.settling.taken_by_rivals.Given as goal

abbrev pub invariant-loop-i : goal.invariant-loop-i
invariant-loop-i l = IsTakenByRivals l.fn.classes l.fn.k l.taken
