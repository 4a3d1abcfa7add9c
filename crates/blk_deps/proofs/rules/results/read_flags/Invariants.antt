use Rattle.std.proofs.Common.{◌≡◌, length}
use Rattle.blk_deps.specs.Layout.{value_words, shown}
use Rattle.blk_deps.specs.Collecting.{Adds, some_of, of_flag}
use Rattle.blk_deps.proofs.rules.results.read_flags.Given as goal

abbrev pub invariant-loop-flag : goal.invariant-loop-flag
invariant-loop-flag l = record {
  size : length l.to ≡ value_words l.layout;
  adds : Adds l.layout (λ property. some_of (of_flag l.flags (shown l.layout l.row) property) l.flag) l.initial.to l.to;
}
