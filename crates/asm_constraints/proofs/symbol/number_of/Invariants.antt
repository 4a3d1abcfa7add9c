use Rattle.std.proofs.Common.{◌≡◌, min, take, ◌∷◌}
use Rattle.asm_core.specs.Constraint.{number_of}
use Rattle.asm_constraints.proofs.symbol.number_of.Given as goal

abbrev pub invariant-loop-digit : goal.invariant-loop-digit
invariant-loop-digit l = l.number ≡ min 255 (number_of (l.first ∷ take l.digit-index l.digits))
