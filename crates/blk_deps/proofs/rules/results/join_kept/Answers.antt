use Rattle.std.proofs.Common.{◌∙◌, sym}
use Rattle.blk_deps.specs.Layout.{shown}
use Rattle.blk_deps.specs.Collecting.{pairs_alone, in_cell}
use Rattle.blk_deps.proofs.CollectLemmas.{adds_where, pairs_of_cell}
use Rattle.blk_deps.proofs.rules.results.join_kept.Goals as goal

pub returns-then-has_bit-clause-adds : goal.returns-then-has_bit-clause-adds
returns-then-has_bit-clause-adds c =
    adds_where c.args.layout.now (pairs_alone (in_cell
    (shown c.args.layout.now c.args.row.now) c.args.cell)) _ c.args.to.now c.join_pairs.new.to
    (sym c.has_bit.ensures ∙ c.if-has_bit.true)
    (pairs_of_cell c.args.layout.now
    (shown c.args.layout.now c.args.row.now) c.args.cell c.value.result.now c.args.to.now c.join_pairs.new.to
    c.value.ensures.size c.value.ensures.held c.join_pairs.ensures.adds)
