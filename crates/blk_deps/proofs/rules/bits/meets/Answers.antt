use Rattle.blk_deps.proofs.SpanLemmas.{common}
use Rattle.blk_deps.proofs.rules.bits.meets.Goals as goal

pub returns : goal.returns
returns c = common c.args.word c.args.other c.ranges.word.fits
