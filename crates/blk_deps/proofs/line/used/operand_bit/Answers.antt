use Rattle.std.proofs.Common.{◌*◌, ◌^◌, ◌%◌, sym, subst}
use Rattle.blk_deps.specs.Rules.{is_of_operand}
use Rattle.blk_deps.specs.LineMoves.{AreBits}
use Rattle.blk_deps.proofs.OperandBits.{operand_bits}
use Rattle.blk_deps.proofs.line.used.operand_bit.Goals as goal

pub returns-in-Memory : goal.returns-in-Memory
returns-in-Memory c =
    subst (λ arg. AreBits (1 * 2 ^ c.in-Memory.k % 4294967296) (λ j. is_of_operand j arg)) (sym c.in-Memory.is) (operand_bits c.in-Memory.k c.if-k-lt32.true)
