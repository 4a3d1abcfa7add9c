use Rattle.std.proofs.Common.{◌≡◌, ◌-◌, length}
use Rattle.c_decls.specs.Declarations.{declarators_declared}
use Rattle.c_decls.proofs.DeclaringLemmas.{declarators_from}
use Rattle.c_decls.proofs.declarators.declare_all.Given as goal

-- what is left gives what the whole gives
abbrev pub invariant-loop-j : goal.invariant-loop-j
invariant-loop-j l = declarators_from l.source l.fn.to l.s l.j l.scopes ≡ declarators_declared l.source l.fn.to l.s l.initial.scopes

abbrev pub decreases-loop-j : goal.decreases-loop-j
decreases-loop-j l = length l.source.tokens - l.j
