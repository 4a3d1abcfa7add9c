use Rattle.blk_deps.proofs.GroundBits.{or_bit}
use Rattle.blk_deps.proofs.ground.bits.either.Goals as goal

pub returns : goal.returns
returns c = λ k. or_bit c.args.word c.args.other k
