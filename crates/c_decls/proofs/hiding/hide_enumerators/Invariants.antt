use Rattle.std.proofs.Common.{◌≡◌, ◌-◌, length}
use Rattle.c_decls.specs.Hiding.{hidden_enumerators}
use Rattle.c_decls.proofs.HidingLemmas.{enumerators_from}
use Rattle.c_decls.proofs.hiding.hide_enumerators.Given as goal

-- what is left gives what the whole gives
abbrev pub invariant-loop-i : goal.invariant-loop-i
invariant-loop-i l = enumerators_from l.source l.from l.to l.i l.scopes ≡ hidden_enumerators l.source l.from l.to l.brace l.fn.scopes

abbrev pub decreases-loop-i : goal.decreases-loop-i
decreases-loop-i l = length l.source.tokens - l.i
