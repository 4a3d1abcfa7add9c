use Rattle.std.proofs.Common.{◌≡◌, length}
use Rattle.c_scopes.specs.Chain.{LeadsTo}
use Rattle.c_scopes.proofs.index.Index.last_seen.Given as goal

abbrev pub invariant-loop-at : goal.invariant-loop-at
invariant-loop-at l = LeadsTo l.self.declarations.items l.fn.space l.name (λ p. p ≡ l.place) (length l.self.declarations.items) l.at

abbrev pub decreases-loop-at : goal.decreases-loop-at
decreases-loop-at l = l.at
