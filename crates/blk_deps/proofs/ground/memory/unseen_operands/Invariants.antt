use Rattle.blk_deps.specs.Operands.{is_unseen}
use Rattle.blk_deps.specs.Ground.{has_bit}
use Rattle.blk_deps.proofs.Gathering.{TellsBelow}
use Rattle.blk_deps.proofs.ground.memory.unseen_operands.Given as goal

abbrev pub invariant-loop-k : goal.invariant-loop-k
invariant-loop-k l = TellsBelow (has_bit l.word) (is_unseen l.interface l.live l.shape) l.k
