use Rattle.blk_check.proofs.LiveLaws.{answered}
use Rattle.blk_check.proofs.live.is_live.Goals as goal

pub returns : goal.returns
returns c = answered c.args.interface.now c.args.shape.now c.can_share.result c.can_share.ensures
