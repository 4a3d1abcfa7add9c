use Rattle.std.proofs.Common.{subst, refl}
use Rattle.asm_core.specs.Lists.{IsMember}
use Rattle.blk_check.proofs.RoomLaws.{member_at, none_so_far, some_there}
use Rattle.blk_check.proofs.room.any_has_room.Goals as goal

pub loop-shape-preserved : goal.loop-shape-preserved
loop-shape-preserved c =
    none_so_far c.args.interface.now c.args.shapes.now c.loop-shape.shape-index c.shape-item.result c.has_room.result
    c.loop-shape-test.true c.shape-item.is c.loop-shape.invariant c.has_room.ensures c.if-has_room.false

pub has_room-requires-clause-shape : goal.has_room-requires-clause-shape
has_room-requires-clause-shape c =
    subst (IsMember c.shape-item.result) c.requires.shapes (member_at c.args.shapes.now c.loop-shape.shape-index c.shape-item.result c.loop-shape-test.true c.shape-item.is)

pub returns-then-has_room : goal.returns-then-has_room
returns-then-has_room c =
    ((λ yes. some_there c.args.interface.now c.args.shapes.now c.loop-shape.shape-index c.shape-item.result c.loop-shape-test.true c.shape-item.is (c.has_room.ensures.0 c.if-has_room.true)), (λ any. refl))
