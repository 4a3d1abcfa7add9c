use Rattle.std.proofs.Common.{◌≡◌, ◌≤◌, ◌-◌, length}
use Rattle.c_decls.specs.Hiding.{hidden_outer_names}
use Rattle.c_decls.proofs.HidingLemmas.{outer_from}
use Rattle.c_decls.proofs.redeclared.hide_outer_names.Given as goal

-- what is left gives what the whole gives
abbrev pub invariant-loop-i : goal.invariant-loop-i
invariant-loop-i l = (l.h.first ≤ l.i) × (outer_from l.source l.h l.i l.scopes ≡ hidden_outer_names l.source l.h l.fn.scopes)

abbrev pub decreases-loop-i : goal.decreases-loop-i
decreases-loop-i l = length l.source.tokens - l.i
