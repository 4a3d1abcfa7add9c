use Rattle.blk_deps.specs.Holding.{AreNames}
use Rattle.blk_deps.proofs.ground.naming.place_names.Given as goal

abbrev pub invariant-loop-p : goal.invariant-loop-p
invariant-loop-p l = AreNames l.interface l.shape l.p l.names
