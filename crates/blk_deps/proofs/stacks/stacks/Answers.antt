use Rattle.std.proofs.Common.{◌≡◌, length, subst, sym, arith}
use Rattle.blk_deps.proofs.StackFound.{AreFirst, no_stacks, one_stack, all_stacks, element_at}
use Rattle.blk_deps.proofs.stacks.stacks.Goals as goal

pub loop-graph-init : goal.loop-graph-init
loop-graph-init c = subst (AreFirst c.args.graphs.now 0) (sym c.new-stacks.ensures) (no_stacks c.args.graphs.now)

pub loop-graph-preserved : goal.loop-graph-preserved
loop-graph-preserved c =
    let graphs = c.args.graphs.now in
    let at = element_at graphs c.loop-graph.graph-index _ c.loop-graph-test.true c.graph-item.is in
    one_stack graphs c.loop-graph.graph-index _ _ _ _ c.loop-graph.invariant at c.in_ok-depths.ensures c.in_ok-push.ensures.ok

pub returns : goal.returns
returns c =
    let all : c.loop-graph.graph-index ≡ length c.args.graphs.now = omega (arith, c.loop-graph-test.false, c.loop-graph.auto.graph-index-end) in
    all_stacks c.args.graphs.now c.loop-graph.graph-index c.loop-graph.stacks all c.loop-graph.invariant
