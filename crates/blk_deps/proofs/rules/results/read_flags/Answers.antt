use Rattle.blk_deps.specs.Layout.{shown}
use Rattle.blk_deps.specs.Collecting.{of_flag}
use Rattle.blk_deps.proofs.CollectLemmas.{some_start, some_next}
use Rattle.blk_deps.proofs.rules.results.read_flags.Goals as goal

pub loop-flag-init : goal.loop-flag-init
loop-flag-init c = record {
  size = c.requires.size;
  adds = some_start c.args.layout.now (of_flag c.args.flags
      (shown c.args.layout.now c.args.row.now)) c.args.to.now;
}

pub loop-flag-preserved : goal.loop-flag-preserved
loop-flag-preserved c = record {
  size = c.read_flag.ensures.size;
  adds = some_next c.args.layout.now (of_flag c.args.flags
      (shown c.args.layout.now c.args.row.now)) c.loop-flag.flag c.args.to.now c.loop-flag.to c.read_flag.new.to
      c.loop-flag.invariant.adds c.read_flag.ensures.adds;
}
