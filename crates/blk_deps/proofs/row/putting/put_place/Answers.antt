use Rattle.std.proofs.Common.{◌∙◌, ap, slice_index}
use Rattle.std.proofs.Math.Path.{fun_ext}
use Rattle.blk_deps.specs.Cells.{place_of}
use Rattle.blk_deps.specs.Layout.{places_in, shown}
use Rattle.blk_deps.specs.Changes.{with_value, without_overwriters, with_marks}
use Rattle.blk_deps.proofs.row.putting.put_place.Goals as goal

pub returns-clause-facts : goal.returns-clause-facts
returns-clause-facts c fact =
    let l = c.args.layout.now in
    let u = c.args.cell in
    let from = c.args.from.now in
    let word = slice_index c.args.sharers.now (place_of u) in
    c.clear_overwriters.ensures.facts fact
    ∙ ap (λ s. without_overwriters u s fact) (fun_ext c.put_value.ensures.facts)
    ∙ ap (λ s. without_overwriters u (with_value l from u s) fact) (fun_ext c.mark_others.ensures.facts)
    ∙ ap (λ new. without_overwriters u (with_value l from u (with_marks (places_in l) word u new (shown l c.args.row.now))) fact) c.changed.ensures
