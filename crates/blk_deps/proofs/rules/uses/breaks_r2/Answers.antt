use Rattle.std.proofs.Common.{◌∙◌, sym}
use Rattle.asm_core.specs.declared.finding.Cell.{Cell}
use Rattle.blk_deps.specs.Layout.{shown_value}
use Rattle.blk_deps.specs.Operands.{is_output_byte}
use Rattle.blk_deps.proofs.AnyLaws.{or_then, or_else}
use Rattle.blk_deps.proofs.CellLemmas.{other_r2}
use Rattle.blk_deps.proofs.SceneLemmas.{mask_few, used_class}
use Rattle.blk_deps.proofs.rules.uses.breaks_r2.Goals as goal

pub entry_in-requires : goal.entry_in-requires
entry_in-requires c = mask_few _ _ _ c.places.ensures

pub returns-then-entry_in : goal.returns-then-entry_in
returns-then-entry_in c =
    let same = used_class c.args.scene.now c.args.used.now.layout c.args.used.now.words.now c.places.result
    c.args.scene.now.context.now.ground.now.output_bytes is_output_byte (Cell.Operand c.in-Operand.k)
    c.requires.scene c.requires.layout c.args.used.now.size c.places.ensures c.requires.scene.context.output_bytes in
    rw c.in-Operand.is (or_then _ _ _ (sym same ∙ sym c.entry_in.ensures ∙ c.if-entry_in.true) c.if-entry_in.true)

pub returns-else-entry_in : goal.returns-else-entry_in
returns-else-entry_in c =
    let same = used_class c.args.scene.now c.args.used.now.layout c.args.used.now.words.now c.places.result
    c.args.scene.now.context.now.ground.now.output_bytes is_output_byte (Cell.Operand c.in-Operand.k)
    c.requires.scene c.requires.layout c.args.used.now.size c.places.ensures c.requires.scene.context.output_bytes in
    rw c.in-Operand.is (or_else _ _ _ (sym same ∙ sym c.entry_in.ensures ∙ c.if-entry_in.false) c.old.ensures)

pub returns-in_default : goal.returns-in_default
returns-in_default c = other_r2 c.args.scene.now.context.now.interface.now c.args.scene.now.context.now.shape.now
    c.args.cell
    (shown_value c.args.used.now.layout c.args.used.now.words.now) c.in_default.not-Operand
