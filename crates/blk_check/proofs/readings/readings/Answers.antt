use Rattle.blk_check.proofs.ShortLaws.{short_answer}
use Rattle.blk_check.proofs.readings.readings.Goals as goal

pub returns-clause-short : goal.returns-clause-short
returns-clause-short c = short_answer c.args.interface.now c.args.pieces.now c.args.shapes.now c.read_all.result c.read_all.ensures
