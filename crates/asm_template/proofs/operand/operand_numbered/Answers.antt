use Rattle.std.proofs.Common.{arith, sym}
use Rattle.asm_template.proofs.OperandLemmas.{number_stop}
use Rattle.asm_template.proofs.operand.operand_numbered.Goals as goal

pub returns-then-number-names : goal.returns-then-number-names
returns-then-number-names c =
    sym (number_stop c.args.names.now c.args.digits.now c.loop-digit.digit-index c.loop-digit.number c.requires.digits c.loop-digit-test.true c.loop-digit.invariant.value (omega (arith, c.from.ensures, c.if-number-names.true)))
