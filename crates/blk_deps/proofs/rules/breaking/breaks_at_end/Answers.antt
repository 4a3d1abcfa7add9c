use Rattle.std.proofs.Common.{◌∙◌, sym}
use Rattle.blk_deps.specs.Layout.{shown, shown_value}
use Rattle.blk_deps.specs.Rules.{used_at_end}
use Rattle.blk_deps.proofs.AnyLaws.{or_else}
use Rattle.blk_deps.proofs.AgreeLemmas.{use_same}
use Rattle.blk_deps.proofs.rules.breaking.breaks_at_end.Goals as goal

pub returns-else-breaks_by_end : goal.returns-else-breaks_by_end
returns-else-breaks_by_end c =
    or_else _ _ _ (sym c.breaks_by_end.ensures ∙ c.if-breaks_by_end.false)
    (c.breaks_by_use.ensures
    ∙ use_same c.args.scene.now.context.now.interface.now c.args.scene.now.context.now.shape.now
    c.args.violation.now.rule c.args.violation.now.cell c.args.violation.now.other
    (shown_value c.args.used.now.layout c.args.used.now.words.now)
    (used_at_end c.args.scene.now.context.now.interface.now c.args.scene.now.context.now.shape.now
    (shown c.args.scene.now.layout.now c.args.row.now))
    (record { each = c.requires.used.each }))
