use Rattle.std.proofs.Common.{sym, drop}
use Rattle.asm_statement.specs.Operands.{operands_from}
use Rattle.asm_statement.proofs.OperandListLemmas.{operands_last, operands_more}
use Rattle.asm_statement.proofs.list.operands_from.Goals as goal

pub returns-then-not-is_comma : goal.returns-then-not-is_comma
returns-then-not-is_comma c =
    operands_last c.args.source.now.text.now c.args.source.now.tokens.now c.loop-i.i c.in_ok-operand.operand c.class_at.result c.loop-i.list c.push.new.self
    (operands_from c.args.source.now.text.now c.args.source.now.tokens.now c.args.first c.args.first (drop c.args.first c.args.source.now.tokens.now))
    c.loop-i-test.true c.in_ok-operand.ensures.is c.class_at.ensures.is (sym c.if-not-is_comma.ensures) c.in_ok-push.ensures.ok c.loop-i.invariant

pub loop-i-preserved : goal.loop-i-preserved
loop-i-preserved c =
    operands_more c.args.source.now.text.now c.args.source.now.tokens.now c.loop-i.i c.in_ok-operand.operand c.class_at.result c.loop-i.list c.push.new.self
    (operands_from c.args.source.now.text.now c.args.source.now.tokens.now c.args.first c.args.first (drop c.args.first c.args.source.now.tokens.now))
    c.loop-i-test.true c.in_ok-operand.ensures.is c.in_ok-operand.ensures.further c.class_at.ensures.is c.class_at.ensures.inside (sym c.if-not-is_comma.ensures) c.in_ok-push.ensures.ok c.loop-i.invariant
