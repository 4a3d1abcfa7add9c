use Rattle.std.proofs.Common.{◌≡◌, ◌++◌, take}
use Rattle.asm_core.specs.Constraint.{names_of}
use Rattle.asm_constraints.proofs.operand.append_names.Given as goal

abbrev pub invariant-loop-part : goal.invariant-loop-part
invariant-loop-part l = l.names ≡ l.fn.names ++ names_of (take l.part-index l.parts)
