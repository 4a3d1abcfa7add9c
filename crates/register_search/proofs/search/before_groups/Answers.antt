use Rattle.std.proofs.Common.{◌+◌, take, sym, subst}
use Rattle.std.proofs.lemmas.Option.{slice_get-get_or}
use Rattle.register_search.proofs.FewGroups.{numbers_below}
use Rattle.register_search.specs.Table.{AreGroupTables}
use Rattle.register_search.proofs.Tables.{group_tables_begun, group_tables_kept, group_tables_grown}
use Rattle.register_search.proofs.search.before_groups.Goals as goal
use Rattle.register_search.proofs.search.before_groups.Goals.{in-Numbered, in_default}

pub loop-class-init : goal.loop-class-init
loop-class-init c = group_tables_begun

pub bounds-tables-number : goal.bounds-tables-number
bounds-tables-number c = numbers_below c.args.classes.now c.requires c.loop-class.class-index _ c.in-Numbered.number (slice_get-get_or c.args.classes.now c.loop-class.class-index _ c.loop-class-test.true) c.in-Numbered.is

pub bounds-tables-number-in-Numbered : goal.bounds-tables-number-in-Numbered
bounds-tables-number-in-Numbered c =
    numbers_below c.args.classes.now c.requires c.loop-class.class-index _ c.in-Numbered.number (slice_get-get_or c.args.classes.now c.loop-class.class-index _ c.loop-class-test.true) c.in-Numbered.is

pub loop-class-preserved : goal.loop-class-preserved
loop-class-preserved c = elim c.match-class.branch [
  | in-Numbered w ↦ subst (λ ts. AreGroupTables (take (c.loop-class.class-index + 1) c.args.classes.now) ts) (sym w.tables-is)
      (group_tables_grown c.args.classes.now c.loop-class.tables c.loop-class.class-index w.in-Numbered.number _ w.before-in-Numbered.result c.loop-class-test.true w.in-Numbered.is
      (numbers_below c.args.classes.now c.requires c.loop-class.class-index _ w.in-Numbered.number (slice_get-get_or c.args.classes.now c.loop-class.class-index _ c.loop-class-test.true) w.in-Numbered.is)
      w.before-in-Numbered.ensures c.loop-class.invariant)
  | in_default w ↦ subst (λ ts. AreGroupTables (take (c.loop-class.class-index + 1) c.args.classes.now) ts) (sym w.tables-is)
      (group_tables_kept c.args.classes.now c.loop-class.tables c.loop-class.class-index _ c.loop-class-test.true w.in_default.not-Numbered c.loop-class.invariant)
]
