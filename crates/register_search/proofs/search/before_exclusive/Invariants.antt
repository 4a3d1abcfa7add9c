use Rattle.std.proofs.Common.{◌≡◌, ℕ, ◌<◌, take}
use Rattle.register_search.specs.Table.{holds, leads_all}
use Rattle.register_search.specs.declared.class.Group.TheVariants.{Exclusive}
use Rattle.register_search.proofs.search.before_exclusive.Given as goal

abbrev pub invariant-loop-class : goal.invariant-loop-class
invariant-loop-class l = (set : ℕ) → set < 128 → holds l.table set ≡ leads_all Exclusive (take l.class-index l.fn.classes) (holds l.fn.wanted) set
