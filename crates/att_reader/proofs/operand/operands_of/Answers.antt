use Rattle.std.proofs.Common.{◌≡◌, ◌∙◌, sym, length, rules, arith}
use Rattle.att_reader.specs.Text.{goals_of}
use Rattle.att_reader.proofs.OperandLemmas.{operand_turn}
use Rattle.att_reader.proofs.operand.operands_of.Goals as goal

pub loop-left-preserved : goal.loop-left-preserved
loop-left-preserved c =
    let len = c.operand_len-comma in
    let other : len.result ≡ length c.loop-left.rest.atoms.now → ⊥ = omega arith in
    let read = sym c.operand_of.ensures ∙ c.in-Some.is in (
      c.rest-rest.ensures.same,
      operand_turn (goals_of c.args.goals.now) _ _ _ _ _ _ _ _ _ _ _ c.loop-left-test.true
          len.ensures.is len.ensures.within c.loop-left.invariant.0 other c.front.ensures.is c.trimmed.ensures.is read
          (search rules) c.rest-rest.ensures.is c.loop-left.invariant.1,
    )
