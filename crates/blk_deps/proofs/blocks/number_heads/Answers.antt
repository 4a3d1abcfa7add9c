use Rattle.std.proofs.Common.{◌≡◌, [], ◌∷◌, ◌++◌, length, sym, subst, ap, ◌∙◌, arith}
use Rattle.blk_deps.specs.Heads.{AreNumbered}
use Rattle.blk_deps.proofs.HeadLemmas.{none_numbered, numbers_on}
use Rattle.blk_deps.proofs.blocks.number_heads.Goals as goal

pub loop-node-init : goal.loop-node-init
loop-node-init c =
    subst (λ xs. AreNumbered c.args.heads.now 0 xs c.new-numbers.result) (sym c.new-firsts.ensures)
    (subst (λ xs. AreNumbered c.args.heads.now 0 [] xs) (sym c.new-numbers.ensures) (none_numbered c.args.heads.now))

pub loop-node-preserved : goal.loop-node-preserved
loop-node-preserved c =
    numbers_on c.args.heads.now c.loop-node.node _ _ _ _ c.loop-node.invariant c.in_ok-push_head.ensures
    (c.in_ok-push.ensures.ok ∙ ap (λ n. c.loop-node.numbers ++ n ∷ []) c.len.ensures)

pub returns : goal.returns
returns c =
    let same : c.loop-node.node ≡ length c.args.heads.now = omega
    (arith, c.loop-node-test.false, c.loop-node.auto.node-end) in
    subst (λ n. AreNumbered c.args.heads.now n c.loop-node.firsts c.loop-node.numbers) same c.loop-node.invariant
