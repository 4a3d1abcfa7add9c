use Rattle.blk_deps.specs.Layout.{shown}
use Rattle.blk_deps.specs.Collecting.{of_kept}
use Rattle.blk_deps.proofs.CollectLemmas.{some_start, some_next}
use Rattle.blk_deps.proofs.rules.results.join_all_kept.Goals as goal

pub loop-cell-init : goal.loop-cell-init
loop-cell-init c = record {
  size = c.requires.size;
  adds = some_start c.args.layout.now (of_kept c.args.kept
      (shown c.args.layout.now c.args.row.now)) c.args.to.now;
}

pub loop-cell-preserved : goal.loop-cell-preserved
loop-cell-preserved c = record {
  size = c.join_kept.ensures.size;
  adds = some_next c.args.layout.now (of_kept c.args.kept
      (shown c.args.layout.now c.args.row.now)) c.loop-cell.cell c.args.to.now c.loop-cell.to c.join_kept.new.to
      c.loop-cell.invariant.adds c.join_kept.ensures.adds;
}
