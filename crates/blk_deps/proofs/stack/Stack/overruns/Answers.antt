use Rattle.std.proofs.Common.{arith}
use Rattle.blk_deps.proofs.StackLemmas.{overruns_is}
use Rattle.blk_deps.proofs.stack.Stack.overruns.Goals as goal

pub returns-then-node-len : goal.returns-then-node-len
returns-then-node-len c =
    overruns_is c.args.graph.now c.args.self.now c.requires.stack c.args.node c.requires.node c.word.result
    c.word.ensures
    (omega (arith, c.if-node-len.true, c.len.ensures)) c.as_slice.result.now c.as_slice.ensures _ _ c.overruns.ensures
