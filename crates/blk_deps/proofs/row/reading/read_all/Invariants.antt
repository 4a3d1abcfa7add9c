use Rattle.std.proofs.Common.{◌≡◌, ◌*◌}
use Rattle.blk_deps.specs.Layout.{block_words, shown}
use Rattle.blk_deps.proofs.HandLemmas.{HoldBelow}
use Rattle.blk_deps.proofs.row.reading.read_all.Given as goal

abbrev pub invariant-loop-read : goal.invariant-loop-read
invariant-loop-read l = (l.at ≡ l.read-index * block_words l.layout)
    × HoldBelow l.layout l.hands (shown l.layout l.row) l.reads l.read-index
