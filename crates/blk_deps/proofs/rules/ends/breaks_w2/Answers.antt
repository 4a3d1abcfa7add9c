use Rattle.std.proofs.Common.{◌∙◌}
use Rattle.blk_deps.specs.Operands.{is_input_place}
use Rattle.blk_deps.proofs.EndLemmas.{both_named, inputs_changed}
use Rattle.blk_deps.proofs.SceneLemmas.{mask_few}
use Rattle.blk_deps.proofs.rules.ends.breaks_w2.Goals as goal

pub is_some_place_changed-requires-clause-mask : goal.is_some_place_changed-requires-clause-mask
is_some_place_changed-requires-clause-mask c =
    mask_few _ _ _ (both_named _ _ _ _
    (is_input_place c.args.scene.now.context.now.interface.now c.args.scene.now.context.now.shape.now)
    c.places.ensures c.requires.scene.context.input_places)

pub returns : goal.returns
returns c =
    let named = both_named _ _ _ _
    (is_input_place c.args.scene.now.context.now.interface.now c.args.scene.now.context.now.shape.now)
    c.places.ensures c.requires.scene.context.input_places in
    c.is_some_place_changed.ensures
    ∙ inputs_changed c.args.scene.now.context.now.interface.now c.args.scene.now.context.now.shape.now
    c.args.scene.now.layout.now c.args.row.now _ c.args.cell c.requires.row c.requires.scene.operands named
