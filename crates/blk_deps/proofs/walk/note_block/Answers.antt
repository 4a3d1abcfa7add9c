use Rattle.std.proofs.Common.{◌≡◌, get_or, refl, sym, subst, arith}
use Rattle.blk_deps.specs.Layout.{shown}
use Rattle.blk_deps.specs.Noting.{IsNoted}
use Rattle.blk_deps.specs.Findings.{facts_after}
use Rattle.blk_deps.specs.FlowLaws.{after_law}
use Rattle.blk_deps.specs.Walking.{BreaksAlong, setting_in}
use Rattle.blk_deps.specs.declared.blocks.BasicBlock.{BasicBlock}
use Rattle.blk_deps.proofs.FlowLemmas.{goes_through, node_within, is_block, whole_block}
use Rattle.blk_deps.proofs.WalkLemmas.{none_along, one_more_along}
use Rattle.blk_deps.proofs.walk.note_block.Goals as goal

pub loop-passed-init : goal.loop-passed-init
loop-passed-init c = (c.requires.hands, c.requires.row, c.requires.used, none_along (setting_in c.args.walk.now) _ _ _ _, λ fact. refl)

pub overflow_add-n : goal.overflow_add-n
overflow_add-n c =
    let w = c.args.walk.now in
    let inside = node_within w.flow c.requires.walk.flow c.args.number c.requires.block _ c.loop-passed.passed c.loop-passed-test.true in
    let few = c.requires.walk.flow.graph.few in
    omega (arith, inside, few)

pub read_node-requires-clause-node : goal.read_node-requires-clause-node
read_node-requires-clause-node c = node_within c.args.walk.now.flow c.requires.walk.flow c.args.number c.requires.block _ c.loop-passed.passed c.loop-passed-test.true

pub note_node-requires-clause-node : goal.note_node-requires-clause-node
note_node-requires-clause-node c = node_within c.args.walk.now.flow c.requires.walk.flow c.args.number c.requires.block _ c.loop-passed.passed c.loop-passed-test.true

pub put_node-requires-clause-node : goal.put_node-requires-clause-node
put_node-requires-clause-node c = node_within c.args.walk.now.flow c.requires.walk.flow c.args.number c.requires.block _ c.loop-passed.passed c.loop-passed-test.true

pub loop-passed-preserved : goal.loop-passed-preserved
loop-passed-preserved c =
    let x = setting_in c.args.walk.now in
    let inv = c.loop-passed.invariant in (
      c.read_node.ensures.hands,
      c.put_node.ensures.row,
      c.read_node.ensures.used,
      one_more_along x _ c.loop-passed.passed _ (shown c.args.walk.now.flow.layout.now c.loop-passed.row) c.args.walk.now.violations.now _ _ _ inv.4 inv.3 c.note_node.ensures,
      goes_through (facts_after x) (after_law x) _ c.loop-passed.passed _ _ _ inv.4 c.put_node.ensures.facts,
    )

pub returns-clause-facts : goal.returns-clause-facts
returns-clause-facts c =
    let w = c.args.walk.now in
    whole_block w.flow c.requires.walk.flow c.args.number c.requires.block
    (record { first = 0; count = 0; next = 0; goal = 0 })
    c.loop-passed.passed _ _ c.loop-passed.auto.passed-end c.loop-passed-test.false c.loop-passed.invariant.4

pub returns-clause-noted : goal.returns-clause-noted
returns-clause-noted c =
    let w = c.args.walk.now in
    let x = setting_in w in
    let none : BasicBlock = record { first = 0; count = 0; next = 0; goal = 0 } in
    let start = get_or w.flow.blocks.now c.args.number none in
    let block = is_block w.flow c.requires.walk.flow c.args.number c.requires.block none in
    let up = c.loop-passed.auto.passed-end in
    let end = c.loop-passed-test.false in
    subst (λ (y : BasicBlock). IsNoted (BreaksAlong x y.first y.count (shown w.flow.layout.now c.args.row.now)) w.violations.now c.args.least.now.lines.items c.loop-passed.least.lines.items) block
    (subst (λ k. IsNoted (BreaksAlong x start.first k (shown w.flow.layout.now c.args.row.now)) w.violations.now c.args.least.now.lines.items c.loop-passed.least.lines.items) (omega (arith, up, end)) c.loop-passed.invariant.3)
