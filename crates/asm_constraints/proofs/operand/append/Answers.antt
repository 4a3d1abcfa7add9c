use Rattle.std.proofs.Common.{arith, length-append}
use Rattle.asm_constraints.proofs.OperandLemmas.{constrained_from-more, constrained_from-end}
use Rattle.asm_constraints.proofs.operand.append.Goals as goal

pub loop-part-preserved : goal.loop-part-preserved
loop-part-preserved c = record {
  counted = grind (arith, length-append);
  same = constrained_from-more _ _ c.args.parts.now c.loop-part.part-index c.part-item.result _ _ _ _ _ _ c.loop-part-test.true c.part-item.is
      c.len-number.ensures c.optional_at-typed.ensures c.in_ok-constrained_operand.ensures c.in_ok-push.ensures.ok c.loop-part.invariant.same;
}

pub returns : goal.returns
returns c = constrained_from-end _ _ c.args.parts.now c.loop-part.part-index _ _ c.loop-part-test.false c.loop-part.invariant.same
