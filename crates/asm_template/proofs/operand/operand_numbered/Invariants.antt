use Rattle.std.proofs.Common.{length}
use Rattle.asm_template.proofs.OperandLemmas.{IsNumber}
use Rattle.asm_template.proofs.operand.operand_numbered.Given as goal

abbrev pub invariant-loop-digit : goal.invariant-loop-digit
invariant-loop-digit l = IsNumber l.digits (length l.names) l.digit-index l.number
