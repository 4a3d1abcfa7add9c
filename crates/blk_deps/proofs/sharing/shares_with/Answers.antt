use Rattle.std.proofs.Common.{◌↔◌, IsTrue, sym, subst, arith}
use Rattle.blk_deps.specs.Start.{MayShare}
use Rattle.blk_deps.proofs.SharingLaws.{told_before}
use Rattle.blk_deps.proofs.sharing.shares_with.Goals as goal

pub returns-then-q-words : goal.returns-then-q-words
returns-then-q-words c =
    subst (λ b. IsTrue b ↔ MayShare c.args.context.now.interface.now c.args.context.now.shape.now c.args.p c.args.q)
    (sym c.has_bit.ensures)
    (told_before _ _ _ _ _ c.args.words.now c.requires.words c.if-q-words.true c.requires.first
    (omega (arith, c.requires.interface.few)))
