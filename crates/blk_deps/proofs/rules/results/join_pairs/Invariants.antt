use Rattle.std.proofs.Common.{◌≡◌, length}
use Rattle.blk_deps.specs.Layout.{value_words, shown_value}
use Rattle.blk_deps.specs.Collecting.{Adds, some_of, pairs_from}
use Rattle.blk_deps.proofs.rules.results.join_pairs.Given as goal

abbrev pub invariant-loop-u : goal.invariant-loop-u
invariant-loop-u l = record {
  size : length l.to ≡ value_words l.layout;
  adds : Adds l.layout (λ property. some_of (λ u. pairs_from u
      (shown_value l.layout l.value) property) l.u) l.initial.to l.to;
}
