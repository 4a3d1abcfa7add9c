use Rattle.std.proofs.Common.{◌≡◌, ◌-◌, length}
use Rattle.c_decls.specs.Progress.{read}
use Rattle.c_decls.specs.Enumerators.{enumerators_from, enumerators_in}
use Rattle.c_decls.proofs.enumerators.read_enumerators.Given as goal

-- what is left gives what the whole gives
abbrev pub invariant-loop-i : goal.invariant-loop-i
invariant-loop-i l = enumerators_from l.source l.to l.depth l.i (read l.scopes l.so_far) ≡ enumerators_in l.source l.to l.depth l.brace l.fn.scopes

abbrev pub decreases-loop-i : goal.decreases-loop-i
decreases-loop-i l = length l.source.tokens - l.i
