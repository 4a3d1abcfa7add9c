use Rattle.std.proofs.Common.{◌≡◌, drop, fold, bit_or}
use Rattle.asm_core.specs.Lists.{count_from}
use Rattle.blk_check.specs.Readable.{operand_bit}
use Rattle.blk_check.proofs.differing.operand_bits.Given as goal

-- with the bits of the operands that are left
abbrev pub invariant-loop-k : goal.invariant-loop-k
invariant-loop-k l = fold (λ bits k. bit_or bits (operand_bit l.fn.places k)) l.bits (count_from l.k (drop l.k l.fn.interface.operands))
    ≡ fold (λ bits k. bit_or bits (operand_bit l.fn.places k)) 0 (count_from 0 l.fn.interface.operands)
