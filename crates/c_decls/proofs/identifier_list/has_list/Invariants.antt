use Rattle.std.proofs.Common.{◌≡◌, ◌-◌, length}
use Rattle.c_decls.specs.Recovery.{has_list}
use Rattle.c_decls.proofs.RecoveryLemmas.{lists_from}
use Rattle.c_decls.proofs.identifier_list.has_list.Given as goal

-- what is left gives what the whole gives
abbrev pub invariant-loop-i : goal.invariant-loop-i
invariant-loop-i l = lists_from l.source l.end l.i ≡ has_list l.source l.first

abbrev pub decreases-loop-i : goal.decreases-loop-i
decreases-loop-i l = length l.source.tokens - l.i
