use Rattle.std.proofs.Common.{◌≡◌, length}
use Rattle.blk_deps.specs.Layout.{value_words, shown}
use Rattle.blk_deps.specs.Collecting.{Adds, some_of, of_kept}
use Rattle.blk_deps.proofs.rules.results.join_all_kept.Given as goal

abbrev pub invariant-loop-cell : goal.invariant-loop-cell
invariant-loop-cell l = record {
  size : length l.to ≡ value_words l.layout;
  adds : Adds l.layout (λ property. some_of (of_kept l.kept (shown l.layout l.row) property) l.cell) l.initial.to l.to;
}
