use Rattle.asm_core.specs.declared.row.Access.{Access}
use Rattle.blk_deps.specs.Rules.{is_of_operand}
use Rattle.blk_deps.proofs.OperandBits.{bits_of_more}
use Rattle.blk_deps.proofs.line.used.addressed_by_access.Goals as goal

pub loop-access-preserved : goal.loop-access-preserved
loop-access-preserved c = bits_of_more (λ k (a : Access). is_of_operand k a.to) c.args.accesses.now c.loop-access.access-index _ _ _ c.loop-access-test.true c.loop-access.invariant c.operand_bit-bits.ensures
