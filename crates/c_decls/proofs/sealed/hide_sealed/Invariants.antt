use Rattle.std.proofs.Common.{◌≡◌, ◌-◌, length}
use Rattle.c_decls.specs.Hiding.{hidden_sealed}
use Rattle.c_decls.proofs.HidingLemmas.{sealed_from}
use Rattle.c_decls.proofs.sealed.hide_sealed.Given as goal

-- what is left gives what the whole gives
abbrev pub invariant-loop-i : goal.invariant-loop-i
invariant-loop-i l = sealed_from l.source l.brace l.i l.scopes ≡ hidden_sealed l.source l.brace l.fn.scopes

abbrev pub decreases-loop-i : goal.decreases-loop-i
decreases-loop-i l = length l.source.tokens - l.i
