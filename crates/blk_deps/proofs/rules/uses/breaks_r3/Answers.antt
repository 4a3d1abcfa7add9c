use Rattle.std.proofs.Common.{◌∙◌}
use Rattle.blk_deps.specs.Layout.{shown_value}
use Rattle.blk_deps.specs.Operands.{is_byte_above}
use Rattle.blk_deps.proofs.CellLemmas.{other_r3}
use Rattle.blk_deps.proofs.SceneLemmas.{mask_few, used_class}
use Rattle.blk_deps.proofs.rules.uses.breaks_r3.Goals as goal

pub entry_in-requires : goal.entry_in-requires
entry_in-requires c = mask_few _ _ _ c.places.ensures

pub returns-in-Operand : goal.returns-in-Operand
returns-in-Operand c =
    let same = used_class c.args.scene.now c.args.used.now.layout c.args.used.now.words.now c.places.result
    c.args.scene.now.context.now.ground.now.bytes_above is_byte_above c.args.cell
    c.requires.scene c.requires.layout c.args.used.now.size c.places.ensures c.requires.scene.context.bytes_above in
    rw c.in-Operand.is (c.entry_in.ensures ∙ (rw c.in-Operand.is at same))

pub returns-in_default : goal.returns-in_default
returns-in_default c = other_r3 c.args.scene.now.context.now.interface.now c.args.scene.now.context.now.shape.now
    c.args.cell
    (shown_value c.args.used.now.layout c.args.used.now.words.now) c.in_default.not-Operand c.in_default.not-Nothing
