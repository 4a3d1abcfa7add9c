use Rattle.register_search.proofs.OneChoice.{IsOnlyBelow}
use Rattle.register_search.proofs.class.Class.only_choice.Given as goal

abbrev pub invariant-loop-choice : goal.invariant-loop-choice
invariant-loop-choice l = IsOnlyBelow l.fn.self l.choice l.only
