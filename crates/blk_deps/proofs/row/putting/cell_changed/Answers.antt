use Rattle.std.proofs.Common.{◌∙◌}
use Rattle.blk_deps.specs.Layout.{shown}
use Rattle.blk_deps.specs.declared.fact.Fact.TheVariants.{Here}
use Rattle.blk_deps.proofs.PutLemmas.{changed_same}
use Rattle.blk_deps.proofs.row.putting.cell_changed.Goals as goal

pub returns : goal.returns
returns c =
    let facts = shown c.args.layout.now c.args.row.now in
    c.changed.ensures ∙ changed_same c.args.layout.now (facts Here) c.value.result.now facts c.args.cell c.requires.layout c.value.ensures.size c.requires.cell
    c.value.ensures.held
