use Rattle.std.proofs.Common.{◌<◌, ◌∙◌, ap, subst}
use Rattle.std.proofs.Math.Path.{fun_ext}
use Rattle.blk_deps.specs.Layout.{shown}
use Rattle.blk_deps.specs.Changes.{with_own}
use Rattle.blk_deps.specs.declared.fact.Fact.TheVariants.{Here}
use Rattle.blk_deps.proofs.StartLemmas.{cell_with, begun_next}
use Rattle.blk_deps.proofs.row.start.begin_cells.Goals as goal

pub begin_cell-requires-clause-here : goal.begin_cell-requires-clause-here
begin_cell-requires-clause-here c = c.loop-number.invariant Here ∙ c.requires.here

pub loop-number-preserved : goal.loop-number-preserved
loop-number-preserved c fact =
    let l = c.args.layout.now in
    let i = c.loop-number.number in
    let lt = subst (λ n. i < n) c.cells-number-end.ensures c.loop-number-test.true in
    let u = cell_with l i c.requires.layout lt in
    c.begin_cell.ensures.facts u.0 u.1 fact
    ∙ ap (λ s. with_own u.0 s fact) (fun_ext c.loop-number.invariant)
    ∙ begun_next l c.requires.layout (shown l c.args.row.now) i u.0 u.1 fact
