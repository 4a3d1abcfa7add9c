use Rattle.std.proofs.Common.{◌≡◌, ◌-◌, length}
use Rattle.c_decls.specs.Progress.{read}
use Rattle.c_decls.specs.Walk.{declarations_of}
use Rattle.c_decls.proofs.WalkLemmas.{walked_from}
use Rattle.c_decls.proofs.walk.walk.Given as goal

-- what is left gives what the whole gives
abbrev pub invariant-loop-i : goal.invariant-loop-i
invariant-loop-i l = walked_from l.source l.i (read l.scopes l.place) ≡ declarations_of l.source

abbrev pub decreases-loop-i : goal.decreases-loop-i
decreases-loop-i l = length l.source.tokens - l.i
