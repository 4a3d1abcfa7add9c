use Rattle.std.proofs.Common.{◌≡◌, ◌+◌, length, subst, sym, arith}
use Rattle.blk_deps.specs.StackTable.{IsLeastOf}
use Rattle.blk_deps.specs.Judged.{IsRuleBroken}
use Rattle.blk_deps.proofs.StackFound.{no_blocks, next_least, element_at, stack_at}
use Rattle.blk_deps.proofs.stacks.least_line.Goals as goal

pub loop-k-init : goal.loop-k-init
loop-k-init c = no_blocks c.args.graphs.now c.args.rule

pub least_line-requires-clause-stack : goal.least_line-requires-clause-stack
least_line-requires-clause-stack c =
    stack_at c.args.graphs.now c.args.stacks.now c.loop-k.k _ _ c.requires.stacks c.loop-k-test.true c.index-graphs-k.is c.index-stacks-k.is

pub loop-k-preserved : goal.loop-k-preserved
loop-k-preserved c =
    let graphs = c.args.graphs.now in
    let at = element_at graphs c.loop-k.k _ c.loop-k-test.true c.index-graphs-k.is in
    subst (IsLeastOf (IsRuleBroken graphs (c.loop-k.k + 1) c.args.rule)) (sym c.lesser-least.ensures)
    (next_least graphs c.args.rule c.loop-k.k _ at c.loop-k.least c.least_line.result c.loop-k.invariant c.least_line.ensures)

pub returns : goal.returns
returns c =
    let all : c.loop-k.k ≡ length c.args.graphs.now = omega (arith, c.loop-k-test.false, c.loop-k.auto.k-end) in
    subst (λ k. IsLeastOf (IsRuleBroken c.args.graphs.now k c.args.rule) c.loop-k.least) all c.loop-k.invariant
