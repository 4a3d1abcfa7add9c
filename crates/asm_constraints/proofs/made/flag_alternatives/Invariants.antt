use Rattle.std.proofs.Common.{◌≡◌, replicate}
use Rattle.asm_core.specs.Interface.{flag_alternative}
use Rattle.asm_constraints.proofs.made.flag_alternatives.Given as goal

abbrev pub invariant-loop-k : goal.invariant-loop-k
invariant-loop-k l = l.made ≡ replicate l._k flag_alternative
