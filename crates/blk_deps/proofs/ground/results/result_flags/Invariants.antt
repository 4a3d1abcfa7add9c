use Rattle.blk_deps.specs.Ground.{has_bit}
use Rattle.blk_deps.proofs.GroundFlags.{FlagsBelow}
use Rattle.blk_deps.proofs.ground.results.result_flags.Given as goal

abbrev pub invariant-loop-operand : goal.invariant-loop-operand
invariant-loop-operand l = FlagsBelow l.interface (has_bit l.flags) l.operand-index
