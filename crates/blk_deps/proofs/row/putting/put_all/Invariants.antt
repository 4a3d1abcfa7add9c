use Rattle.blk_deps.proofs.DownLemmas.{Reached}
use Rattle.blk_deps.proofs.row.putting.put_all.Given as goal

abbrev pub invariant-loop-put : goal.invariant-loop-put
invariant-loop-put l = Reached l.layout l.sharers l.hands l.puts l.put-index l.initial.row l.row
