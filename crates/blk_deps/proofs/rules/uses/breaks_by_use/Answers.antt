use Rattle.blk_deps.specs.Layout.{shown_value}
use Rattle.blk_deps.proofs.CellLemmas.{other_use}
use Rattle.blk_deps.proofs.rules.uses.breaks_by_use.Goals as goal

pub returns-in_default : goal.returns-in_default
returns-in_default c = other_use c.args.scene.now.context.now.interface.now c.args.scene.now.context.now.shape.now
    c.args.violation.now.rule c.args.violation.now.cell c.args.violation.now.other
    (shown_value c.args.used.now.layout c.args.used.now.words.now) c.in_default.not-R1 c.in_default.not-R2
    c.in_default.not-R3 c.in_default.not-U3
