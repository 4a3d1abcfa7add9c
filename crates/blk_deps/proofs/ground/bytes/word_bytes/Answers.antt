use Rattle.blk_deps.proofs.GroundBytes.{shifted}
use Rattle.blk_deps.proofs.ground.bytes.word_bytes.Goals as goal

pub returns : goal.returns
returns c = λ n within. shifted c.low_bytes.result c.args.place c.args.count n c.low_bytes.ensures.below
    c.low_bytes.ensures.bits within
