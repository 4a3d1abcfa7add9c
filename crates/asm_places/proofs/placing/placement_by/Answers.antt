use Rattle.std.proofs.Common.{pos, ap, ◌∙◌, arith}
use Rattle.std.proofs.lemmas.List.{length-set}
use Rattle.asm_core.specs.Placement.{tie_root}
use Rattle.asm_core.specs.declared.placement.Spot.{Spot}
use Rattle.asm_places.specs.Operand.{operand_in}
use Rattle.asm_places.specs.Placing.{left_in, spot_for}
use Rattle.asm_places.proofs.Filling.{read_more}
use Rattle.asm_places.proofs.placing.placement_by.Goals as goal

pub loop-k-preserved : goal.loop-k-preserved
loop-k-preserved c = (
  length-set c.loop-k.spots c.loop-k.k c.spot_for.result ∙ c.loop-k.invariant.0,
  read_more c.loop-k.spots c.loop-k.k c.spot_for.result (Spot.Number (pos 0)) (λ k. spot_for c.args.goal.now (tie_root c.args.i.now c.args.s.now k) (operand_in c.args.i.now c.args.s.now (tie_root c.args.i.now c.args.s.now k)) (left_in c.args.classes.now (tie_root c.args.i.now c.args.s.now k))) c.loop-k.invariant.0 c.loop-k-test.true
      (c.spot_for.ensures ∙ ap (spot_for c.args.goal.now c.tie_root-root.result c.operand_in.result) c.choice_left.ensures
      ∙ ap (λ o. spot_for c.args.goal.now c.tie_root-root.result o (left_in c.args.classes.now c.tie_root-root.result)) c.operand_in.ensures
      ∙ ap (λ r. spot_for c.args.goal.now r (operand_in c.args.i.now c.args.s.now r) (left_in c.args.classes.now r)) c.tie_root-root.ensures.is)
      c.loop-k.invariant.1,
)

pub returns : goal.returns
returns c = record { count = c.len.ensures; spots = λ k lt. c.loop-k.invariant.1 k (let end = c.loop-k-test.false in omega arith) }
