use Rattle.std.proofs.Common.{◌≡◌, length}
use Rattle.blk_deps.specs.Layout.{value_words, row_words}
use Rattle.blk_deps.specs.FlowFacts.{HaveHands}
use Rattle.blk_deps.specs.Noting.{IsNoted}
use Rattle.blk_deps.specs.Walking.{setting_in, first_in}
use Rattle.blk_deps.proofs.PathsNoted.{BreaksBefore}
use Rattle.blk_deps.proofs.judged.note_paths.Given as goal

abbrev pub invariant-loop-number : goal.invariant-loop-number
invariant-loop-number l =
    HaveHands l.walk.flow l.hands
    × (length l.row.items ≡ row_words l.walk.flow.layout.now)
    × (length l.used.items ≡ value_words l.walk.flow.layout.now)
    × IsNoted (BreaksBefore (setting_in l.walk) (first_in l.walk l.number)) l.walk.violations.now l.fn.least.lines.items l.least.lines.items
