use Rattle.std.proofs.Common.{◌≡◌, length}
use Rattle.blk_deps.specs.Layout.{row_words, shown}
use Rattle.blk_deps.specs.Blocks.{facts_through}
use Rattle.blk_deps.specs.Findings.{facts_after}
use Rattle.blk_deps.specs.FlowFacts.{setting_of, HaveHands}
use Rattle.blk_deps.specs.declared.fact.Fact.{Fact}
use Rattle.blk_deps.proofs.flow.FlowBlock.apply.Given as goal

abbrev pub invariant-loop-passed : goal.invariant-loop-passed
invariant-loop-passed l =
    let x = l.fn.self in
    HaveHands x l.hands.items
    × (length l.row ≡ row_words x.layout.now)
    × ((fact : Fact) → shown x.layout.now l.row fact
    ≡ facts_through (facts_after (setting_of x)) l.block.first l.passed (shown x.layout.now l.fn.row) fact)
