use Rattle.std.proofs.Common.{◌≡◌, ◌-◌, length}
use Rattle.c_decls.specs.Members.{unknown_from, unknown_members}
use Rattle.c_decls.proofs.unknown_members.unknown_members.Given as goal

-- what is left gives what the whole gives
abbrev pub invariant-loop-i : goal.invariant-loop-i
invariant-loop-i l = unknown_from l.source l.scopes l.end l.i l.members ≡ unknown_members l.source l.scopes l.first l.end

abbrev pub decreases-loop-i : goal.decreases-loop-i
decreases-loop-i l = length l.source.tokens - l.i
