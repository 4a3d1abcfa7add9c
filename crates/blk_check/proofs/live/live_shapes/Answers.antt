use Rattle.blk_check.proofs.LiveLaws.{members_answer}
use Rattle.blk_check.proofs.live.live_shapes.Goals as goal

pub returns-clause-members : goal.returns-clause-members
returns-clause-members c = members_answer c.args.interface.now c.args.shapes.now c.live_among.result c.requires.shapes c.live_among.ensures
