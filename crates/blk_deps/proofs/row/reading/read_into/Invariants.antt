use Rattle.std.proofs.Common.{take}
use Rattle.blk_deps.specs.Layout.{shown}
use Rattle.blk_deps.proofs.SourceLemmas.{ComesOf}
use Rattle.blk_deps.proofs.row.reading.read_into.Given as goal

abbrev pub invariant-loop-name : goal.invariant-loop-name
invariant-loop-name l = ComesOf l.layout (shown l.layout l.row) (take l.name-index l.name-items) l.to
