use Rattle.blk_deps.proofs.DepthWords.{begins_word}
use Rattle.blk_deps.proofs.stack.pushing.PushingBlock.begin.Goals as goal

pub returns : goal.returns
returns c = λ depth. begins_word c.args.row.now depth.0 c.requires.blank
