use Rattle.std.proofs.Common.{◌≡◌}
use Rattle.c_decls.specs.Hiding.{follows_star}
use Rattle.c_decls.proofs.uncovered.follows_star.Given as goal

-- what is left gives what the whole gives
abbrev pub invariant-loop-j : goal.invariant-loop-j
invariant-loop-j l = follows_star l.source l.i ≡ follows_star l.source l.j

abbrev pub decreases-loop-j : goal.decreases-loop-j
decreases-loop-j l = l.j
