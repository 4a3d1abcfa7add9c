use Rattle.std.proofs.Common.{length, ap, arith}
use Rattle.blk_deps.proofs.GroundNames.{first_here, first_later, first_none}
use Rattle.blk_deps.proofs.GroundPlaces.{places_count, tested_at}
use Rattle.blk_deps.proofs.ground.naming.first_there.Goals as goal

pub overflow_cast-result : goal.overflow_cast-result
overflow_cast-result c = omega (
  arith,
  c.requires.interface.few,
  ap length c.requires.places,
  places_count
      c.args.interface.now c.args.shape.now,
  c.loop-k-test.true,
)

pub returns-then-is_there : goal.returns-then-is_there
returns-then-is_there c = first_here c.args.interface.now.operands _ c.loop-k.k _
    (omega (arith, ap length c.requires.places, places_count c.args.interface.now c.args.shape.now, c.loop-k-test.true))
    (tested_at c.args.interface.now c.args.shape.now c.args.of c.args.places.now c.loop-k.k _ c.args.p _ _
    c.requires.places c.loop-k-test.true c.is_there.ensures c.if-is_there.true) c.loop-k.invariant

pub loop-k-preserved : goal.loop-k-preserved
loop-k-preserved c = first_later c.args.interface.now.operands _ c.loop-k.k _
    (omega (arith, ap length c.requires.places, places_count c.args.interface.now c.args.shape.now, c.loop-k-test.true))
    (tested_at c.args.interface.now c.args.shape.now c.args.of c.args.places.now c.loop-k.k _ c.args.p _ _
    c.requires.places c.loop-k-test.true c.is_there.ensures c.if-is_there.false) c.loop-k.invariant

pub returns : goal.returns
returns c = first_none c.args.interface.now.operands _ c.loop-k.k _
    (omega (
      arith,
      ap length c.requires.places,
      places_count c.args.interface.now c.args.shape.now,
      c.loop-k-test.false,
    )) c.loop-k.invariant
