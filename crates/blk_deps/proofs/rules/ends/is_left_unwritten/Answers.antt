use Rattle.std.proofs.Common.{◌∙◌}
use Rattle.blk_deps.specs.Layout.{shown}
use Rattle.blk_deps.proofs.EndLemmas.{left_is}
use Rattle.blk_deps.proofs.rules.ends.is_left_unwritten.Goals as goal

pub returns-in-Operand : goal.returns-in-Operand
returns-in-Operand c = rw c.in-Operand.is (c.is_some_left.ensures
    ∙ left_is c.args.scene.now.context.now.interface.now
    (shown c.args.scene.now.layout.now c.args.row.now) c.in-Operand.k c.size_at-size.result c.size_at-size.ensures)
