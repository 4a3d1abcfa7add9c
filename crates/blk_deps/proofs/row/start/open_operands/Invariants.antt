use Rattle.blk_deps.specs.Changes.{Opens}
use Rattle.blk_deps.proofs.row.start.open_operands.Given as goal

abbrev pub invariant-loop-k : goal.invariant-loop-k
invariant-loop-k l = Opens l.operands l.unseen l.k l.initial.row l.row
