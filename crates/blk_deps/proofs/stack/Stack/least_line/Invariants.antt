use Rattle.std.proofs.Common.{ℕ, ◌<◌}
use Rattle.blk_deps.specs.Stack.{BreaksStack}
use Rattle.blk_deps.proofs.stack.Stack.least_line.Given as goal

-- no node so far breaks the rule
abbrev pub invariant-loop-node : goal.invariant-loop-node
invariant-loop-node l = (k : ℕ) → k < l.node → BreaksStack l.fn.graph l.fn.rule k → ⊥
