use Rattle.std.proofs.Common.{◌∙◌}
use Rattle.blk_deps.specs.Layout.{shown}
use Rattle.blk_deps.proofs.EndLemmas.{flags_changed}
use Rattle.blk_deps.proofs.rules.ends.breaks_w3.Goals as goal

pub returns-then-not-scene : goal.returns-then-not-scene
returns-then-not-scene c = rw c.in-Cc.is (c.is_flag_changed.ensures
    ∙ flags_changed c.args.scene.now.context.now.interface.now
    (shown c.args.scene.now.layout.now c.args.row.now) c.if-not-scene.true)
