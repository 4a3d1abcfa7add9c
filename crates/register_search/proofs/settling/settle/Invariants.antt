use Rattle.std.proofs.Common.{◌-◌, length}
use Rattle.register_search.proofs.Trying.{IsSettling}
use Rattle.register_search.proofs.settling.settle.Given as goal

abbrev pub invariant-loop-k : goal.invariant-loop-k
invariant-loop-k l = IsSettling l.fn.classes l.classes l.k

abbrev pub decreases-loop-k : goal.decreases-loop-k
decreases-loop-k l = length l.initial.classes - l.k
