use Rattle.std.proofs.Common.{◌&&◌, ◌∙◌, sym, ap}
use Rattle.blk_deps.specs.Layout.{shown, shown_value}
use Rattle.blk_deps.specs.Rules.{breaks_by_access, used_at_line}
use Rattle.blk_deps.proofs.AnyLaws.{or_then, or_else}
use Rattle.blk_deps.proofs.AgreeLemmas.{use_same}
use Rattle.blk_deps.proofs.rules.breaking.breaks_at_line.Goals as goal

pub returns-then-breaks_on_path : goal.returns-then-breaks_on_path
returns-then-breaks_on_path c =
    or_then _ _ _ (ap (λ b. breaks_by_access c.args.scene.now.context.now.interface.now
    c.args.scene.now.context.now.live.now c.args.at.now.depth c.args.at.now.line.now c.args.violation.now.rule
    c.args.violation.now.cell && b) (sym c.requires.here)
    ∙ sym c.breaks_on_path.ensures ∙ c.if-breaks_on_path.true) c.if-breaks_on_path.true

pub returns-else-breaks_on_path : goal.returns-else-breaks_on_path
returns-else-breaks_on_path c =
    or_else _ _ _ (ap (λ b. breaks_by_access c.args.scene.now.context.now.interface.now
    c.args.scene.now.context.now.live.now c.args.at.now.depth c.args.at.now.line.now c.args.violation.now.rule
    c.args.violation.now.cell && b) (sym c.requires.here)
    ∙ sym c.breaks_on_path.ensures ∙ c.if-breaks_on_path.false)
    (c.breaks_by_use.ensures
    ∙ use_same c.args.scene.now.context.now.interface.now c.args.scene.now.context.now.shape.now
    c.args.violation.now.rule c.args.violation.now.cell c.args.violation.now.other
    (shown_value c.args.used.now.layout c.args.used.now.words.now)
    (used_at_line c.args.scene.now.context.now.interface.now c.args.scene.now.context.now.shape.now
    c.args.at.now.depth c.args.at.now.line.now (shown c.args.scene.now.layout.now c.args.row.now))
    (record { each = c.requires.used.each }))
