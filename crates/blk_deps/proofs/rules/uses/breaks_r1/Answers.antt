use Rattle.blk_deps.specs.Layout.{shown_value}
use Rattle.blk_deps.proofs.CellLemmas.{other_r1}
use Rattle.blk_deps.proofs.rules.uses.breaks_r1.Goals as goal

pub returns-in_default : goal.returns-in_default
returns-in_default c = other_r1 c.args.scene.now.context.now.interface.now c.args.scene.now.context.now.shape.now
    c.args.cell (shown_value c.args.used.now.layout c.args.used.now.words.now) c.in_default.not-Reg
    c.in_default.not-Flag
