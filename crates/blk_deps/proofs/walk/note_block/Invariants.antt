use Rattle.std.proofs.Common.{◌≡◌, length}
use Rattle.blk_deps.specs.Layout.{value_words, row_words, shown}
use Rattle.blk_deps.specs.Blocks.{facts_through}
use Rattle.blk_deps.specs.Findings.{facts_after}
use Rattle.blk_deps.specs.FlowFacts.{HaveHands}
use Rattle.blk_deps.specs.Noting.{IsNoted}
use Rattle.blk_deps.specs.Walking.{BreaksAlong, setting_in}
use Rattle.blk_deps.specs.declared.fact.Fact.{Fact}
use Rattle.blk_deps.proofs.walk.note_block.Given as goal

abbrev pub invariant-loop-passed : goal.invariant-loop-passed
invariant-loop-passed l =
    let layout = l.walk.flow.layout.now in
    HaveHands l.walk.flow l.hands
    × (length l.row ≡ row_words layout)
    × (length l.used ≡ value_words layout)
    × IsNoted (BreaksAlong (setting_in l.walk) l.block.first l.passed (shown layout l.fn.row)) l.walk.violations.now l.fn.least.lines.items l.least.lines.items
    × ((fact : Fact) → shown layout l.row fact ≡ facts_through (facts_after (setting_in l.walk)) l.block.first l.passed (shown layout l.fn.row) fact)
