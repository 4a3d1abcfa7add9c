use Rattle.blk_deps.specs.Layout.{shown}
use Rattle.blk_deps.specs.declared.fact.Fact.TheVariants.{Unwritten}
use Rattle.blk_deps.proofs.AnyLaws.{NoneBelow}
use Rattle.blk_deps.proofs.rules.ends.is_some_left.Given as goal

abbrev pub invariant-loop-b : goal.invariant-loop-b
invariant-loop-b l = NoneBelow (λ b. shown l.layout l.row (Unwritten l.k b)) l.b
