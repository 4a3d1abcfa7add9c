use Rattle.blk_deps.proofs.StackFound.{AreFirst}
use Rattle.blk_deps.proofs.stacks.stacks.Given as goal

abbrev pub invariant-loop-graph : goal.invariant-loop-graph
invariant-loop-graph l = AreFirst l.graphs l.graph-index l.stacks
