use Rattle.std.proofs.Common.{[], sym, subst}
use Rattle.std.proofs.lemmas.Option.{slice_get-get_or}
use Rattle.register_search.specs.Settling.{IsTakenByRivals}
use Rattle.register_search.specs.declared.class.Group.TheVariants.{Absent}
use Rattle.register_search.specs.declared.class.Class.{Class}
use Rattle.register_search.proofs.OneChoice.{more_taken}
use Rattle.register_search.proofs.settling.taken_by_rivals.Goals as goal
use Rattle.register_search.proofs.settling.taken_by_rivals.Goals.{then-i-k, else-i-k}

abbrev blank : Class
blank = record { group = Absent; choices = [] }

pub loop-i-preserved : goal.loop-i-preserved
loop-i-preserved c = elim c.if-i-k.branch [
  | then-i-k w ↦ subst (IsTakenByRivals c.args.classes.now c.args.k) (sym w.taken-is)
      (more_taken c.args.classes.now c.args.k c.loop-i.i _ _ c.loop-i.taken w.needed-taken.result (slice_get-get_or c.args.classes.now c.args.k blank c.requires)
      (slice_get-get_or c.args.classes.now c.loop-i.i blank c.loop-i-test.true) w.if-i-k.true w.needed-taken.ensures c.loop-i.invariant)
  | else-i-k w ↦ subst (IsTakenByRivals c.args.classes.now c.args.k) (sym w.taken-is) c.loop-i.invariant
]
