use Rattle.std.proofs.Common.{◌≡◌, ◌+◌, ◌≤◌, ap, subst, length, arith}
use Rattle.blk_deps.specs.Holding.{AreNames}
use Rattle.blk_deps.proofs.GroundNames.{one_name_more}
use Rattle.blk_deps.proofs.GroundPlaces.{places_count}
use Rattle.blk_deps.proofs.ground.naming.place_names.Goals as goal

pub place_name-requires-clause-place : goal.place_name-requires-clause-place
place_name-requires-clause-place c = omega (
  arith,
  c.requires.interface.few,
  ap length c.requires.places,
  places_count
      c.args.interface.now c.args.shape.now,
  c.loop-p-test.true,
)

pub loop-p-preserved : goal.loop-p-preserved
loop-p-preserved c = one_name_more c.args.interface.now c.args.shape.now c.loop-p.p c.loop-p.names _ c.place_name.result
    c.place_name.ensures c.in_ok-push.ensures.ok c.loop-p.invariant

pub returns : goal.returns
returns c = subst (λ n. AreNames c.args.interface.now c.args.shape.now n c.loop-p.names) (whole c.loop-p-test.false)
    c.loop-p.invariant
  where
    whole : 7 + length c.args.places.now ≤ c.loop-p.p → c.loop-p.p ≡ 7 + length c.args.interface.now.operands
    whole le = omega (
      arith,
      le,
      c.loop-p.auto.p-end,
      ap length c.requires.places,
      places_count c.args.interface.now
          c.args.shape.now,
    )
