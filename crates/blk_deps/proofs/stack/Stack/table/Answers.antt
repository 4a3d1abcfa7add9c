use Rattle.std.proofs.Common.{◌≡◌, ◌∙◌, ◌+◌, arith}
use Rattle.blk_deps.specs.Ways.{size_of}
use Rattle.blk_deps.proofs.StackLemmas.{one_more, are_depths, fit_depths}
use Rattle.blk_deps.proofs.stack.Stack.table.Goals as goal

pub loop-node-preserved : goal.loop-node-preserved
loop-node-preserved c = one_more c.args.graph.now _ _ c.loop-node.node _ c.loop-node.invariant c.depth_at.ensures
    c.in_ok-push.ensures.ok

pub returns-clause-depths : goal.returns-clause-depths
returns-clause-depths c =
    let g = c.args.graph.now in
    let all : c.loop-node.node ≡ size_of g + 1 =
    omega (arith, c.loop-node-test.false, c.loop-node.auto.node-end, c.len-node-end.ensures) in
    are_depths g c.requires.graph c.requires.sound c.loop-node.depths (c.loop-node.invariant.0 ∙ all)
    (λ n below. c.loop-node.invariant.1 n (omega (arith, below, c.loop-node.invariant.0)))

pub returns-clause-fit : goal.returns-clause-fit
returns-clause-fit c =
    let g = c.args.graph.now in
    let all : c.loop-node.node ≡ size_of g + 1 =
    omega (arith, c.loop-node-test.false, c.loop-node.auto.node-end, c.len-node-end.ensures) in
    fit_depths g c.requires.graph c.requires.sound c.loop-node.depths (c.loop-node.invariant.0 ∙ all)
    (λ n below. c.loop-node.invariant.1 n (omega (arith, below, c.loop-node.invariant.0)))
