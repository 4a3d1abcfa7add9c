use Rattle.std.proofs.Common.{arith}
use Rattle.blk_deps.proofs.DepthWords.{least_has}
use Rattle.blk_deps.proofs.StackLemmas.{none_is, depth_is}
use Rattle.blk_deps.proofs.stack.Stack.depth_at.Goals as goal

pub returns-then-word-eq0 : goal.returns-then-word-eq0
returns-then-word-eq0 c =
    none_is c.args.graph.now c.args.self.now c.requires.stack c.args.node c.requires.node c.word-word.result
    c.word-word.ensures c.if-word-eq0.true

pub returns : goal.returns
returns c =
    depth_is c.args.graph.now c.args.self.now c.requires.stack c.args.node c.requires.node c.word-word.result
    c.word-word.ensures _
    (least_has c.word-word.result (omega (arith, c.if-word-eq0.false)) c.word-word.type_inv)
