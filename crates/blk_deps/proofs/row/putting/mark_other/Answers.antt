use Rattle.std.proofs.Common.{◌+◌, ◌*◌, ◌&&◌, ◌||◌, ◌∙◌, ap}
use Rattle.std.proofs.Math.Path.{fun_ext}
use Rattle.blk_deps.specs.Cells.{place_of, byte_of}
use Rattle.blk_deps.specs.Ground.{has_bit}
use Rattle.blk_deps.specs.Layout.{shown}
use Rattle.blk_deps.specs.Changes.{is_changed, with_overwriter}
use Rattle.blk_deps.proofs.MarkLemmas.{marked_next, own_passed}
use Rattle.blk_deps.proofs.row.putting.mark_other.Goals as goal

pub returns-clause-facts : goal.returns-clause-facts
returns-clause-facts c facts known fact =
    let l = c.args.layout.now in
    let row = c.args.row.now in
    let u = c.args.cell in
    let i = c.args.place in
    let cell = 4 * i + byte_of u in
    c.mark.ensures.facts fact
    ∙ ap (λ on. with_overwriter (place_of u) cell on (shown l row) fact)
    (c.overwrites-overwrites.ensures ∙ ap (λ t. t && (c.args.new || is_changed (shown l row) cell)) c.word_has.ensures)
    ∙ ap (λ s. with_overwriter (place_of u) cell (has_bit c.args.sharers i && (c.args.new || is_changed s cell)) s fact) (fun_ext known)
    ∙ marked_next c.args.sharers u c.args.new facts i c.if-place-cell.false fact

pub returns-then-place-cell-clause-facts : goal.returns-then-place-cell-clause-facts
returns-then-place-cell-clause-facts c facts known fact = known fact ∙ own_passed c.args.sharers c.args.cell c.args.new facts c.args.place c.if-place-cell.true fact
