use Rattle.blk_deps.proofs.DepthWords.{applies}
use Rattle.blk_deps.proofs.stack.pushing.PushingBlock.apply.Goals as goal

pub returns-clause-facts : goal.returns-clause-facts
returns-clause-facts c =
    applies c.args.self.now.graph.now c.args.self.now.effects.now c.requires.block.1 c.args.at c.requires.node _
    c.args.row.now c.requires.row
    c.only_word-word.result c.only_word-word.ensures c.only_word-word.type_inv c.pushed.result c.pushed.type_inv
    c.pushed.ensures
