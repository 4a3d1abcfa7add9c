use Rattle.std.proofs.Common.{take}
use Rattle.std.specs.List.{list_any}
use Rattle.asm_core.specs.declared.row.Access.{Access}
use Rattle.blk_deps.specs.Rules.{is_of_operand}
use Rattle.blk_deps.specs.LineMoves.{AreBits}
use Rattle.blk_deps.proofs.line.used.addressed_by_access.Given as goal

abbrev pub invariant-loop-access : goal.invariant-loop-access
invariant-loop-access l = AreBits l.bits (λ k. list_any (λ (a : Access). is_of_operand k a.to) (take l.access-index l.accesses))
