use Rattle.blk_deps.specs.Heads.{AreHeadsTo}
use Rattle.blk_deps.proofs.blocks.mark_all.Given as goal

abbrev pub invariant-loop-at : goal.invariant-loop-at
invariant-loop-at l = AreHeadsTo l.fn.graph l.at l.heads.items
