use Rattle.std.proofs.Common.{arith}
use Rattle.blk_deps.proofs.DepthWords.{deep_is}
use Rattle.blk_deps.proofs.stack.has_deep.Goals as goal

pub returns : goal.returns
returns c = deep_is c.args.word (omega (arith, c.ranges.word.fits))
