use Rattle.blk_deps.proofs.GroundBits.{or_bit}
use Rattle.blk_deps.proofs.ground.results.either.Goals as goal

pub returns : goal.returns
returns c = λ f. or_bit c.args.flags c.args.more f
