use Rattle.std.proofs.Common.{sym, ap, ◌∙◌}
use Rattle.blk_deps.specs.Layout.{shown}
use Rattle.blk_deps.specs.Rules.{breaks_at_line}
use Rattle.blk_deps.specs.Walking.{setting_in}
use Rattle.blk_deps.specs.declared.rules.scene.Scene.{Scene}
use Rattle.blk_deps.proofs.WalkLemmas.{before_then, before_else}
use Rattle.blk_deps.proofs.walk.breaks_before.Goals as goal

pub returns-then-breaks_by_text : goal.returns-then-breaks_by_text
returns-then-breaks_by_text c =
    let w = c.args.walk.now in
    before_then (setting_in w) c.args.at.now.depth c.args.at.now.line.now (shown w.flow.layout.now c.args.row.now) c.args.violation.now _
    (sym c.breaks_by_text.ensures ∙ c.if-breaks_by_text.true) c.if-breaks_by_text.true

pub returns-else-breaks_by_text : goal.returns-else-breaks_by_text
returns-else-breaks_by_text c =
    let w = c.args.walk.now in let at = c.args.at.now in
    before_else (setting_in w) at.depth at.line.now (shown w.flow.layout.now c.args.row.now) c.args.violation.now c.breaks_at_line.result
    (sym c.breaks_by_text.ensures ∙ c.if-breaks_by_text.false)
    (c.breaks_at_line.ensures
    ∙ ap (λ (s : Scene). breaks_at_line s.context.now.interface.now s.context.now.live.now s.context.now.shape.now at.depth at.line.now c.args.violation.now (shown s.layout.now c.args.row.now)) c.scene_of-scene.ensures)
