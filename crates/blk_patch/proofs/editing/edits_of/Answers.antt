use Rattle.std.proofs.Common.{◌++◌, ap, ◌∙◌}
use Rattle.blk_patch.specs.Edits.{operand_edits}
use Rattle.blk_patch.proofs.EditLaws.{edits_more}
use Rattle.blk_patch.proofs.editing.edits_of.Goals as goal

pub returns : goal.returns
returns c =
    let items = c.args.items.now in
    let count = c.len-outputs.result in
    let none = c.new-edits.result in
    let first = c.push_operands.new.edits in
    edits_more items c.args.parts.now count none first c.push_operands-2.new.edits c.push_clobbers.new.edits
    c.new-edits.ensures
    (c.in_ok-push_operands.ensures ∙ ap (λ ps. none ++ operand_edits items 0 ps) c.as_slice.ensures)
    c.len-outputs.ensures
    (c.in_ok-push_operands-2.ensures ∙ ap (λ ps. first ++ operand_edits items count ps) c.as_slice-2.ensures)
    c.in_ok-push_clobbers.ensures
