use Rattle.std.proofs.Common.{◌≡◌, map, take}
use Rattle.asm_core.specs.Size.{size_of}
use Rattle.asm_constraints.proofs.size.sizes.Given as goal

abbrev pub invariant-loop-operand : goal.invariant-loop-operand
invariant-loop-operand l = l.made ≡ map (size_of l.operands) (take l.operand-index l.operands)
