use Rattle.std.proofs.Common.{◌∙◌}
use Rattle.blk_deps.proofs.StackLemmas.{leaves_is}
use Rattle.blk_deps.proofs.stack.Stack.leaves.Goals as goal

pub returns-then-node-len : goal.returns-then-node-len
returns-then-node-len c =
    leaves_is c.args.graph.now c.args.self.now c.requires.stack c.args.node c.requires.node c.word.result
    c.word.ensures (c.if-node-len.true ∙ c.len.ensures)
    _ c.has_deep.ensures
