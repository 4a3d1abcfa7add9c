use Rattle.std.proofs.Common.{◌≡◌}
use Rattle.blk_deps.specs.Layout.{shown}
use Rattle.blk_deps.specs.Changes.{with_owns}
use Rattle.blk_deps.specs.declared.fact.Fact.{Fact}
use Rattle.blk_deps.proofs.row.start.begin_cells.Given as goal

abbrev pub invariant-loop-number : goal.invariant-loop-number
invariant-loop-number l = (fact : Fact) → shown l.layout l.row fact ≡ with_owns l.layout l.number (shown l.initial.layout l.initial.row) fact
