use Rattle.std.proofs.Common.{◌≡◌, ◌-◌, length}
use Rattle.c_decls.specs.Hiding.{hidden_bodies}
use Rattle.c_decls.proofs.HidingLemmas.{bodies_from}
use Rattle.c_decls.proofs.hiding.hide_bodies.Given as goal

-- what is left gives what the whole gives
abbrev pub invariant-loop-i : goal.invariant-loop-i
invariant-loop-i l = bodies_from l.source l.to l.end l.i l.scopes ≡ hidden_bodies l.source l.to l.first l.end l.fn.scopes

abbrev pub decreases-loop-i : goal.decreases-loop-i
decreases-loop-i l = length l.source.tokens - l.i
