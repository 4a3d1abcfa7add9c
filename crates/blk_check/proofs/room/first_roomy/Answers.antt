use Rattle.std.proofs.Common.{length, refl, sym, subst}
use Rattle.std.proofs.lemmas.Option.{slice_get_read}
use Rattle.asm_core.specs.Lists.{IsMember}
use Rattle.asm_core.specs.Shape.{shapes_of}
use Rattle.asm_core.specs.declared.shape.Shape.{Shape}
use Rattle.blk_check.proofs.RoomLaws.{none_so_far}
use Rattle.blk_check.proofs.RoomyLaws.{first_here}
use Rattle.blk_check.proofs.room.first_roomy.Goals as goal

pub has_room-requires-clause-shape : goal.has_room-requires-clause-shape
has_room-requires-clause-shape c =
    subst (λ (s : Shape). IsMember s (shapes_of c.args.interface.now)) (sym c.index-shapes-k.is) (c.requires.shapes c.loop-k.k c.index-shapes-k.result c.loop-k-test.true)

pub returns-then-has_room-clause-some : goal.returns-then-has_room-clause-some
returns-then-has_room-clause-some c =
    let is = slice_get_read c.args.shapes.now (length c.args.shapes.now) c.loop-k.k c.index-shapes-k.result refl c.loop-k-test.true c.index-shapes-k.is in
    (is, first_here c.args.interface.now c.args.shapes.now c.loop-k.k c.index-shapes-k.result is c.loop-k.invariant (c.has_room.ensures.0 c.if-has_room.true))

pub loop-k-preserved : goal.loop-k-preserved
loop-k-preserved c =
    none_so_far c.args.interface.now c.args.shapes.now c.loop-k.k c.index-shapes-k.result c.has_room.result
    c.loop-k-test.true c.index-shapes-k.is c.loop-k.invariant c.has_room.ensures c.if-has_room.false
