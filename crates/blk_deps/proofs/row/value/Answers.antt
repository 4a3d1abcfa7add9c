use Rattle.std.proofs.Common.{◌≡◌, ◌+◌, sym, subst, arith}
use Rattle.std.specs.List.{between}
use Rattle.blk_deps.specs.Layout.{shown}
use Rattle.blk_deps.specs.Fits.{held}
use Rattle.blk_deps.specs.declared.fact.Fact.TheVariants.{Here, Has}
use Rattle.blk_deps.proofs.FactLemmas.{held_in_row}
use Rattle.blk_deps.proofs.row.value.Goals as goal

pub returns-clause-held : goal.returns-clause-held
returns-clause-held c property =
    let l = c.args.layout.now in
    let row = c.args.row.now in
    let at = c.block-at.result in
    subst (λ n. held l (shown l row Here) (between at (at + n) row) property ≡ shown l row (Has c.args.cell property)) (sym c.value_words.ensures)
    (held_in_row l row c.args.cell at property c.requires.layout (omega (arith, c.requires.size)) c.block-at.ensures)
