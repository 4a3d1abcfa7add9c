use Rattle.std.proofs.Common.{◌≡◌, refl, sym, subst, ◌∙◌, arith, length}
use Rattle.std.proofs.lemmas.List.{with_items_is}
use Rattle.blk_deps.specs.Findings.{facts_after}
use Rattle.blk_deps.specs.FlowFacts.{setting_of, HaveHands}
use Rattle.blk_deps.specs.FlowLaws.{after_law}
use Rattle.blk_deps.proofs.FlowLemmas.{goes_through, node_within, whole_block}
use Rattle.blk_deps.proofs.flow.FlowBlock.apply.Goals as goal

pub loop-passed-init : goal.loop-passed-init
loop-passed-init c = (c.requires.scratch, c.requires.row, λ fact. refl)

pub overflow_add-block : goal.overflow_add-block
overflow_add-block c =
    let inside = node_within c.args.self.now c.requires.block c.args.at c.requires.node _ c.loop-passed.passed
    c.loop-passed-test.true in
    omega (arith, inside, c.requires.block.graph.few)

pub move_by-requires-clause-node : goal.move_by-requires-clause-node
move_by-requires-clause-node c =
    node_within c.args.self.now c.requires.block c.args.at c.requires.node _ c.loop-passed.passed
    c.loop-passed-test.true

pub loop-passed-preserved : goal.loop-passed-preserved
loop-passed-preserved c =
    let x = c.args.self.now in
    let hands = c.loop-passed.hands in
    let long : length c.move_by.new.hands ≡ hands.len = c.move_by.auto.hands ∙ c.deref_mut.ensures.len in (
      subst (HaveHands x) (sym (with_items_is hands c.move_by.new.hands long)) c.move_by.ensures.hands,
      c.move_by.ensures.row,
      goes_through (facts_after (setting_of x)) (after_law (setting_of x)) _ c.loop-passed.passed _ _ _
          c.loop-passed.invariant.2 c.move_by.ensures.facts,
    )

pub returns-clause-facts : goal.returns-clause-facts
returns-clause-facts c =
    whole_block c.args.self.now c.requires.block c.args.at c.requires.node
    (record { first = 0; count = 0; next = 0; goal = 0 })
    c.loop-passed.passed _ _ c.loop-passed.auto.passed-end c.loop-passed-test.false c.loop-passed.invariant.2
