use Rattle.std.proofs.Common.{◌≡◌, map, filter, take}
use Rattle.asm_core.specs.Malformed.{malformed_operand, is_malformed}
use Rattle.asm_constraints.proofs.malformed.operand_findings.Given as goal

abbrev pub invariant-loop-operand : goal.invariant-loop-operand
invariant-loop-operand l = l.made ≡ map malformed_operand (filter (is_malformed l.operands l.names l.clobbers l.pieces) (take l.operand-index l.operands))
