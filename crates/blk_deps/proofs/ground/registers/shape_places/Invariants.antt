use Rattle.blk_deps.specs.Ground.{has_bit}
use Rattle.blk_deps.proofs.GroundPlaces.{ArePlacesBelow}
use Rattle.blk_deps.proofs.ground.registers.shape_places.Given as goal

abbrev pub invariant-loop-k : goal.invariant-loop-k
invariant-loop-k l = ArePlacesBelow l.interface l.shape (has_bit l.word) l.k
