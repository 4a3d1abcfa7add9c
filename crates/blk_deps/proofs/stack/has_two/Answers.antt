use Rattle.std.proofs.Common.{arith, refl}
use Rattle.blk_deps.proofs.DepthWords.{two_is}
use Rattle.blk_deps.proofs.stack.has_two.Goals as goal

pub returns-then-word-ne0 : goal.returns-then-word-ne0
returns-then-word-ne0 c = two_is c.args.word _ (omega (arith, c.if-word-ne0.true))
    (omega (arith, c.ranges.word.fits)) refl
