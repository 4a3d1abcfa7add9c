use Rattle.std.proofs.Common.{◌≡◌, map, take}
use Rattle.asm_core.specs.Interface.{operand_of}
use Rattle.asm_constraints.proofs.made.operands_of.Given as goal

abbrev pub invariant-loop-operand : goal.invariant-loop-operand
invariant-loop-operand l = l.made ≡ map (operand_of l.count l.sizes) (take l.operand-index l.operands)
