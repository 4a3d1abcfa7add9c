use Rattle.blk_deps.specs.StackTable.{IsLeastOf}
use Rattle.blk_deps.specs.Judged.{IsRuleBroken}
use Rattle.blk_deps.proofs.stacks.least_line.Given as goal

abbrev pub invariant-loop-k : goal.invariant-loop-k
invariant-loop-k l = IsLeastOf (IsRuleBroken l.graphs l.k l.rule) l.least
