use Rattle.blk_deps.specs.Heads.{AreNumbered}
use Rattle.blk_deps.proofs.blocks.number_heads.Given as goal

abbrev pub invariant-loop-node : goal.invariant-loop-node
invariant-loop-node l = AreNumbered l.fn.heads l.node l.firsts l.numbers
