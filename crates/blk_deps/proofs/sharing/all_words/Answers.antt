use Rattle.std.proofs.Common.{◌+◌, length, sym, subst}
use Rattle.blk_deps.specs.Sharing.{TellWords}
use Rattle.blk_deps.proofs.SharingLaws.{pushed_words}
use Rattle.blk_deps.proofs.sharing.all_words.Goals as goal

pub word_of-word-requires-clause-words : goal.word_of-word-requires-clause-words
word_of-word-requires-clause-words c =
    let i = c.args.context.now.interface.now in
    subst (TellWords i c.args.context.now.shape.now (7 + length i.operands)) (sym c.as_slice.ensures)
    c.loop-p.invariant.1

pub loop-p-preserved : goal.loop-p-preserved
loop-p-preserved c =
    pushed_words _ _ _ _ _ _ _ c.loop-p.invariant.0 c.loop-p.invariant.1 c.word_of-word.ensures c.in_ok-push.ensures.ok

pub returns-clause-words : goal.returns-clause-words
returns-clause-words c = c.loop-p.invariant.1
