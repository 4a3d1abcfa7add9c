use Rattle.std.proofs.Common.{take}
use Rattle.register_search.specs.Table.{AreGroupTables}
use Rattle.register_search.proofs.search.before_groups.Given as goal

abbrev pub invariant-loop-class : goal.invariant-loop-class
invariant-loop-class l = AreGroupTables (take l.class-index l.fn.classes) l.tables
