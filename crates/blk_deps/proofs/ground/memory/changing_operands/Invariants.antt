use Rattle.blk_deps.specs.Operands.{is_changing}
use Rattle.blk_deps.specs.Ground.{has_bit}
use Rattle.blk_deps.proofs.Gathering.{TellsBelow}
use Rattle.blk_deps.proofs.ground.memory.changing_operands.Given as goal

abbrev pub invariant-loop-k : goal.invariant-loop-k
invariant-loop-k l = TellsBelow (has_bit l.word) (is_changing l.live) l.k
