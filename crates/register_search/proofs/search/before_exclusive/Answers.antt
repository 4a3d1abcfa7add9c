use Rattle.std.proofs.Common.{refl, ap, ◌∙◌}
use Rattle.register_search.specs.Table.{holds, is_same, leads_all}
use Rattle.register_search.specs.declared.class.Group.TheVariants.{Exclusive}
use Rattle.register_search.proofs.Tables.{loop_kept, loop_grown, not_exclusive}
use Rattle.register_search.proofs.search.before_exclusive.Goals as goal
use Rattle.register_search.proofs.search.before_exclusive.Goals.{in-Exclusive, in_default}

pub loop-class-init : goal.loop-class-init
unfolding leads_all
loop-class-init c = λ set s. refl

pub loop-class-preserved : goal.loop-class-preserved
loop-class-preserved c = elim c.match-class.branch [
  | in-Exclusive w ↦ λ set s. ap (λ t. holds t set) w.table-is ∙ loop_grown Exclusive c.args.classes.now c.loop-class.class-index _ (holds c.args.wanted) (holds c.loop-class.table) (holds w.before-table.result)
      c.loop-class-test.true (ap (is_same Exclusive) w.in-Exclusive.is) c.loop-class.invariant w.before-table.ensures set s
  | in_default w ↦ λ set s. ap (λ t. holds t set) w.table-is ∙ loop_kept Exclusive c.args.classes.now c.loop-class.class-index _ (holds c.args.wanted) (holds c.loop-class.table)
      c.loop-class-test.true (not_exclusive _ w.in_default.not-Exclusive) c.loop-class.invariant set s
]
