use Rattle.std.proofs.Common.{ap, ◌∙◌, ◌&&◌, not}
use Rattle.blk_deps.specs.Ground.{has_bit}
use Rattle.blk_deps.proofs.GroundPlaces.{first_seven}
use Rattle.blk_deps.proofs.ground.registers.lone_places.Goals as goal

pub returns : goal.returns
returns c = λ p within. c.without.ensures p within ∙ ap (λ b. b && not (has_bit c.args.held p)) (first_seven p)
