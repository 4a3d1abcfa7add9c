use Rattle.std.proofs.Common.{◌≡◌, drop}
use Rattle.blk_flow.specs.Graph.{goal_in}
use Rattle.blk_flow.proofs.flow.goal_in.Given as goal

abbrev pub invariant-loop-target : goal.invariant-loop-target
invariant-loop-target l = goal_in (drop l.target-index l.targets) l.n ≡ goal_in l.targets l.n
