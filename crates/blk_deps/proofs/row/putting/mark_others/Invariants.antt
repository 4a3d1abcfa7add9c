use Rattle.std.proofs.Common.{◌≡◌}
use Rattle.blk_deps.specs.Layout.{shown}
use Rattle.blk_deps.specs.Changes.{with_marks}
use Rattle.blk_deps.specs.declared.fact.Fact.{Fact}
use Rattle.blk_deps.proofs.row.putting.mark_others.Given as goal

abbrev pub invariant-loop-place : goal.invariant-loop-place
invariant-loop-place l = (fact : Fact)
    → shown l.layout l.row fact ≡ with_marks l.place l.sharers l.cell l.new (shown l.initial.layout l.initial.row) fact
