use Rattle.std.proofs.Common.{◌≡◌, get_or, None, Some}
use Rattle.blk_flow.specs.Graph.{goal_in}
use Rattle.blk_flow.proofs.GraphLaws.{behind-none, behind-missing, behind-more}
use Rattle.blk_flow.proofs.flow.graph.Goals as goal

pub returns-in_default-goal_in : goal.returns-in_default-goal_in
returns-in_default-goal_in c =
    let lines = c.as_slice-lines.result.now in
    let targets = c.as_slice-targets.result.now in
    let is : get_or lines c.loop-n.n c.index-lines-n.result ≡ Some c.in-Some.sym = cc (c.index-lines-n.is, c.in-Some.is) in
    let none : goal_in targets c.loop-n.n ≡ None = cc (c.in_default-goal_in.is, c.goal_in.ensures) in
    let missing = behind-missing targets c.loop-n.n lines c.loop-n.n c.in-Some.sym c.index-lines-n.result c.loop-n.insts c.loop-n.goals c.loop-n-test.true is none in
    cc (missing, c.loop-n.invariant, c.as_slice-lines.ensures, c.as_slice-targets.ensures)

pub loop-n-preserved : goal.loop-n-preserved
loop-n-preserved c =
    let lines = c.as_slice-lines.result.now in
    let targets = c.as_slice-targets.result.now in
    let is : get_or lines c.loop-n.n c.index-lines-n.result ≡ Some c.in-Some.sym = cc (c.index-lines-n.is, c.in-Some.is) in
    let some : goal_in targets c.loop-n.n ≡ Some c.in-Some-goal_in.goal = cc (c.in-Some-goal_in.is, c.goal_in.ensures) in
    let more = behind-more targets c.loop-n.n lines c.loop-n.n c.in-Some.sym c.index-lines-n.result c.loop-n.insts c.loop-n.goals c.in-Some-goal_in.goal c.loop-n-test.true is some in
    cc (more, c.loop-n.invariant, c.in_ok-push.ensures.ok, c.in_ok-push-2.ensures.ok, c.in_ok-duplicate.ensures)

pub returns : goal.returns
returns c =
    let past = behind-none c.loop-n.insts c.loop-n.goals c.as_slice-targets.result.now c.loop-n.n c.as_slice-lines.result.now c.loop-n.n c.loop-n-test.false in
    cc (past, c.loop-n.invariant, c.as_slice-lines.ensures, c.as_slice-targets.ensures)
