use Rattle.std.proofs.Common.{sym, subst, IsTrue, ◌↔◌}
use Rattle.blk_check.specs.Judged.{HasRoom}
use Rattle.blk_check.proofs.RoomLaws.{answered}
use Rattle.blk_check.proofs.room.has_room.Goals as goal

pub returns : goal.returns
returns c =
    subst (λ b. IsTrue b ↔ HasRoom c.args.interface.now c.args.shape.now) (sym c.is_some.ensures)
    (answered c.args.interface.now c.args.shape.now c.room.result c.room.ensures.least c.room.ensures.none)
