use Rattle.blk_deps.proofs.StackLemmas.{differs_is}
use Rattle.blk_deps.proofs.stack.Stack.differs.Goals as goal

pub returns : goal.returns
returns c = differs_is c.args.graph.now c.args.self.now c.requires.stack c.args.node c.requires.node c.word.result
    c.word.ensures _ c.has_two.ensures
