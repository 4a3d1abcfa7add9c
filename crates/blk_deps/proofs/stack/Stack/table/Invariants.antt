use Rattle.std.proofs.Common.{◌≡◌, ℕ, ◌<◌, length, slice_index}
use Rattle.blk_deps.specs.StackTable.{IsDepthAt}
use Rattle.blk_deps.proofs.stack.Stack.table.Given as goal

abbrev pub invariant-loop-node : goal.invariant-loop-node
invariant-loop-node l = (length l.depths ≡ l.node)
    × ((n : ℕ) → n < l.node → IsDepthAt l.fn.graph n (slice_index l.depths n))
