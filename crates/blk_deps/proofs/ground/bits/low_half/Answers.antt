use Rattle.blk_deps.proofs.GroundBits.{low_bit}
use Rattle.blk_deps.proofs.ground.bits.low_half.Goals as goal

pub returns : goal.returns
returns c = λ k within. low_bit c.args.word k within
