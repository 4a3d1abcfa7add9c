use Rattle.register_search.proofs.Trying.{IsTrying}
use Rattle.register_search.proofs.settling.settle_class.Given as goal

abbrev pub invariant-loop-choice : goal.invariant-loop-choice
invariant-loop-choice l = IsTrying l.fn.classes l.classes l.k l.class l.choice
