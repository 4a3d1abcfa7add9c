use Rattle.std.proofs.Common.{ap, length, arith}
use Rattle.blk_deps.specs.Ground.{has_bit}
use Rattle.blk_deps.proofs.GroundPlaces.{places_count, places_start, places_more, places_all}
use Rattle.blk_deps.proofs.ground.registers.shape_places.Goals as goal

pub loop-k-init : goal.loop-k-init
loop-k-init c = places_start c.args.interface.now c.args.shape.now

pub with_bit-word-requires : goal.with_bit-word-requires
with_bit-word-requires c = omega (
  arith,
  c.requires.interface.few,
  c.loop-k-test.true,
  ap length c.requires.places,
  places_count c.args.interface.now c.args.shape.now,
)

pub loop-k-preserved : goal.loop-k-preserved
loop-k-preserved c = places_more c.args.interface.now c.args.shape.now c.args.places.now c.loop-k.k _
    (has_bit c.loop-k.word) (has_bit c.with_bit-word.result) _ c.requires.places c.loop-k-test.true
    c.has_place.ensures c.loop-k.invariant c.with_bit-word.ensures

pub returns : goal.returns
returns c = places_all c.args.interface.now c.args.shape.now (has_bit c.loop-k.word) c.loop-k.k
    (omega (arith, ap length c.requires.places, places_count c.args.interface.now c.args.shape.now)) c.loop-k.invariant
