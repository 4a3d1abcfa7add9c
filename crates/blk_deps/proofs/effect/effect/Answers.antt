use Rattle.std.proofs.Common.{length, ap, ◌∙◌}
use Rattle.asm_core.specs.Table.{row_of}
use Rattle.blk_deps.proofs.EffectLemmas.{none_moved, effect_is}
use Rattle.blk_deps.proofs.effect.effect.Goals as goal

pub returns-then-not-moves_stack : goal.returns-then-not-moves_stack
returns-then-not-moves_stack c =
    let line = c.args.line.now in
    none_moved line c.row-row.result.now
    (c.row-row.ensures.is ∙ ap (λ xs. row_of line.op line.width (length xs)) c.as_slice.ensures)
    _ c.moves_stack.ensures c.if-not-moves_stack.true

pub returns : goal.returns
returns c = effect_is c.args.line.now c.in_ok-entries.entries _ _ _ c.in_ok-entries.ensures c.as_slice-writes.ensures
    c.pushes.ensures c.pops.ensures
