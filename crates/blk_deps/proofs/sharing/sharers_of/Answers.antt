use Rattle.std.proofs.Common.{◌≡◌, ◌+◌, ◌≤◌, length, arith, subst, ap, ◌∙◌}
use Rattle.blk_deps.specs.Sharing.{TellsBelow}
use Rattle.blk_deps.proofs.SharingLaws.{word_more}
use Rattle.blk_deps.proofs.sharing.sharers_of.Goals as goal

pub loop-q-preserved : goal.loop-q-preserved
loop-q-preserved c =
    word_more _ _ _ _ _ _ _ (omega (arith, c.loop-q-test.true, c.len-count.ensures, c.requires.interface.few))
    c.loop-q.invariant c.shares_with.ensures c.with_bit-word.ensures

pub returns : goal.returns
returns c =
    subst (λ q. TellsBelow c.args.context.now.interface.now c.args.context.now.shape.now c.args.p q c.loop-q.word)
    (omega (arith, c.loop-q-test.false, c.loop-q.auto, c.len-count.ensures)) c.loop-q.invariant
