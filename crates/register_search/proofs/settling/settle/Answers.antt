use Rattle.std.proofs.Common.{[], arith, ◌+◌, ◌∙◌, sym, subst, true, false}
use Rattle.register_search.specs.declared.class.Class.{Class}
use Rattle.register_search.specs.declared.class.Group.TheVariants.{Absent}
use Rattle.register_search.proofs.Trying.{IsSettling, settling_passes, settling_settles, settling_done, class_at}
use Rattle.register_search.proofs.settling.settle.Goals as goal
use Rattle.register_search.proofs.settling.settle.Goals.{then-takes_registers, else-takes_registers}

abbrev blank : Class
blank = record { group = Absent; choices = [] }

pub loop-k-preserved : goal.loop-k-preserved
loop-k-preserved c = elim c.if-takes_registers.branch [
  | then-takes_registers w ↦ subst (λ now. IsSettling c.args.classes.now now (c.loop-k.k + 1)) (sym w.classes-is)
      (settling_settles c.args.classes.now c.loop-k.classes w.settle_class.new.classes c.loop-k.k c.loop-k.invariant (λ d is. class_at c.loop-k.classes c.loop-k.k blank d true is (sym c.takes_registers.ensures ∙ w.if-takes_registers.true)) w.settle_class.ensures)
  | else-takes_registers w ↦ subst (λ now. IsSettling c.args.classes.now now (c.loop-k.k + 1)) (sym w.classes-is)
      (settling_passes c.args.classes.now c.loop-k.classes c.loop-k.k c.loop-k.invariant (λ d is. class_at c.loop-k.classes c.loop-k.k blank d false is (sym c.takes_registers.ensures ∙ w.if-takes_registers.false)))
]

pub returns : goal.returns
returns c = settling_done c.args.classes.now c.loop-k.classes c.loop-k.k c.loop-k.invariant (let size = c.loop-k.invariant.size in let end = c.loop-k-test.false in omega arith)
