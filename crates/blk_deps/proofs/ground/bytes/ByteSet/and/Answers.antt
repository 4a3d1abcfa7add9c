use Rattle.blk_deps.proofs.GroundBytes.{cells_or}
use Rattle.blk_deps.proofs.ground.bytes.ByteSet.and.Goals as goal

pub returns : goal.returns
returns c = cells_or c.args.self.first c.args.self.second c.args.self.third c.args.more.first c.args.more.second
    c.args.more.third _ _ _ c.either.ensures c.either-2.ensures c.either-3.ensures
