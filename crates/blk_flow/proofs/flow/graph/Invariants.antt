use Rattle.std.proofs.Common.{◌≡◌, drop}
use Rattle.blk_flow.specs.Graph.{graph_from}
use Rattle.blk_flow.proofs.GraphLaws.{behind}
use Rattle.blk_flow.proofs.flow.graph.Given as goal

-- the instructions so far, and then the graph of the others
abbrev pub invariant-loop-n : goal.invariant-loop-n
invariant-loop-n l = behind l.insts l.goals (graph_from l.targets l.n (drop l.n l.lines)) ≡ graph_from l.targets 0 l.lines
