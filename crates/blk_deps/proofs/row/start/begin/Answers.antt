use Rattle.std.proofs.Common.{◌∙◌, subst, length, List}
use Rattle.asm_core.specs.declared.interface.OperandIface.{OperandIface}
use Rattle.blk_deps.specs.Layout.{row_words}
use Rattle.blk_deps.specs.Changes.{Opens}
use Rattle.blk_deps.proofs.EntryLemmas.{entered, here_entered, blank_first, blank_size}
use Rattle.blk_deps.proofs.row.start.begin.Goals as goal

pub begin_cells-requires-clause-here : goal.begin_cells-requires-clause-here
begin_cells-requires-clause-here c =
    let x = c.args.context.now in
    let bits = blank_first (row_words c.args.layout.now) c.args.row.now c.set.new.words c.requires.blank c.set.ensures.bits in
    here_entered c.as_slice.result.now x.ground.now.unseen _ c.set.new.words c.open_operands.new.row bits c.open_operands.ensures.opens

pub returns : goal.returns
returns c fact =
    let l = c.args.layout.now in
    let x = c.args.context.now in
    let i = x.interface.now in
    let bits = blank_first (row_words l) c.args.row.now c.set.new.words c.requires.blank c.set.ensures.bits in
    let opens = subst (λ (os : List OperandIface). Opens os x.ground.now.unseen (length os) c.set.new.words c.open_operands.new.row)
    c.as_slice.ensures c.open_operands.ensures.opens in
    c.begin_cells.ensures.facts fact
    ∙ entered l c.requires.layout i x.live.now x.shape.now x.ground.now.unseen c.set.new.words c.open_operands.new.row c.requires.operands
    c.requires.context.unseen c.requires.small.each bits opens (c.open_operands.ensures.size ∙ c.set.ensures.size ∙ blank_size (row_words l) c.args.row.now c.requires.blank) fact
