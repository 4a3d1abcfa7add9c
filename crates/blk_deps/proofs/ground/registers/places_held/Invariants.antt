use Rattle.std.proofs.Common.{◌&&◌}
use Rattle.blk_deps.specs.Operands.{holds, numbers_in}
use Rattle.blk_deps.specs.Holding.{is_of}
use Rattle.blk_deps.specs.Ground.{has_bit}
use Rattle.blk_deps.proofs.Gathering.{Gathers}
use Rattle.blk_deps.proofs.ground.registers.places_held.Given as goal

abbrev pub invariant-loop-k : goal.invariant-loop-k
invariant-loop-k l = Gathers 64 (has_bit l.held) (λ p k. is_of l.of l.interface k && holds l.interface l.shape p k)
    (numbers_in l.interface) l.k
