use Rattle.std.proofs.Common.{sym, ◌∙◌}
use Rattle.blk_patch.proofs.FindingLaws.{new_here, new_next}
use Rattle.blk_patch.proofs.rounds.first_new.Goals as goal

pub returns-then-is_some : goal.returns-then-is_some
returns-then-is_some c =
    new_here c.args.body.now c.args.patched.now c.args.items.now c.args.findings.now c.loop-finding.finding-index _ c.loop-finding-test.true c.loop-finding.invariant
    c.new_item-item.result c.new_item-item.ensures (sym c.is_some.ensures ∙ c.if-is_some.true)

pub loop-finding-preserved : goal.loop-finding-preserved
loop-finding-preserved c =
    new_next c.args.body.now c.args.patched.now c.args.items.now c.args.findings.now c.loop-finding.finding-index _ c.loop-finding-test.true c.loop-finding.invariant
    c.new_item-item.result c.new_item-item.ensures (sym c.is_some.ensures ∙ c.if-is_some.false)
