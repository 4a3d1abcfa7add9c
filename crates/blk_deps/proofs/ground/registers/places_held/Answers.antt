use Rattle.std.proofs.Common.{◌<◌, ◌≤◌, ap, length, arith}
use Rattle.blk_deps.specs.Ground.{has_bit}
use Rattle.blk_deps.proofs.Gathering.{gathers_start, gathers_more, gathers_all}
use Rattle.blk_deps.proofs.GroundPlaces.{places_count, held_more}
use Rattle.blk_deps.proofs.GroundBits.{no_bit}
use Rattle.blk_deps.proofs.ground.registers.places_held.Goals as goal

pub loop-k-init : goal.loop-k-init
loop-k-init c = gathers_start 64 (has_bit 0) _ _ (λ p within. no_bit p)

pub loop-k-preserved : goal.loop-k-preserved
loop-k-preserved c = gathers_more c.args.interface.now.operands 64 (has_bit c.loop-k.held)
    (has_bit c.either-held.result) _ c.loop-k.k (inside c.loop-k-test.true) c.loop-k.invariant
    (λ p within. held_more c.args.interface.now c.args.shape.now c.args.of c.args.places.now c.loop-k.k _ p _ _ _
    c.requires c.loop-k-test.true (c.places_counted.ensures p within) (c.either-held.ensures p))
  where
    inside : c.loop-k.k < length c.args.places.now → c.loop-k.k < length c.args.interface.now.operands
    inside lt = omega (arith, ap length c.requires, places_count c.args.interface.now c.args.shape.now)

pub returns : goal.returns
returns c = gathers_all c.args.interface.now.operands 64 (has_bit c.loop-k.held) _ c.loop-k.k (all c.loop-k-test.false)
    c.loop-k.invariant
  where
    all : length c.args.places.now ≤ c.loop-k.k → length c.args.interface.now.operands ≤ c.loop-k.k
    all le = omega (arith, ap length c.requires, places_count c.args.interface.now c.args.shape.now)
