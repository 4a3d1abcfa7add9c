use Rattle.std.proofs.Common.{ℕ, arith}
use Rattle.blk_deps.specs.Layout.{shown_value}
use Rattle.blk_deps.specs.Collecting.{pairs_from}
use Rattle.blk_deps.specs.declared.fact.Property.{Property}
use Rattle.blk_deps.proofs.CollectLemmas.{some_start, some_next, all_pairs}
use Rattle.blk_deps.proofs.rules.results.join_pairs.Goals as goal

pub loop-u-init : goal.loop-u-init
loop-u-init c = record {
  size = c.requires.size;
  adds = some_start c.args.layout.now (λ (property : Property)
      (u : ℕ). pairs_from u (shown_value c.args.layout.now c.args.value.now) property) c.args.to.now;
}

pub loop-u-preserved : goal.loop-u-preserved
loop-u-preserved c = record {
  size = c.join_from.ensures.size;
  adds = some_next c.args.layout.now (λ (property : Property) (u : ℕ). pairs_from u
      (shown_value c.args.layout.now c.args.value.now) property) c.loop-u.u c.args.to.now c.loop-u.to
      c.join_from.new.to c.loop-u.invariant.adds c.join_from.ensures.adds;
}

pub returns-clause-adds : goal.returns-clause-adds
returns-clause-adds c = all_pairs c.args.layout.now c.args.value.now c.args.to.now c.loop-u.to c.loop-u.u
    c.requires.value (omega arith) c.loop-u.invariant.adds
