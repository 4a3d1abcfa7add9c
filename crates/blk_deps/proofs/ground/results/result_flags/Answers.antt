use Rattle.std.proofs.Common.{◌≡◌, ◌<◌, ◌≤◌, get_or, length, ap, sym, ◌∙◌, arith}
use Rattle.blk_deps.specs.Ground.{has_bit}
use Rattle.blk_deps.proofs.GroundBits.{no_bit}
use Rattle.blk_deps.proofs.GroundFlags.{flags_start, flags_more, flags_all}
use Rattle.blk_deps.proofs.ground.results.result_flags.Goals as goal

pub loop-operand-init : goal.loop-operand-init
loop-operand-init c = flags_start c.args.interface.now (has_bit 0) no_bit

pub loop-operand-preserved : goal.loop-operand-preserved
loop-operand-preserved c = flags_more c.args.interface.now (has_bit c.loop-operand.flags)
    (has_bit c.either-flags.result) (has_bit c.flags_of_output.result) c.loop-operand.operand-index
    c.operand-item.result
    (inside c.as_slice-operand-items.ensures c.loop-operand-test.true)
    (sym (c.operand-item.is ∙ ap (λ os. get_or os c.loop-operand.operand-index c.operand-item.result)
    c.as_slice-operand-items.ensures))
    c.flags_of_output.ensures c.either-flags.ensures c.loop-operand.invariant
  where
    inside : c.as_slice-operand-items.result.now ≡ c.args.interface.now.operands
        → c.loop-operand.operand-index < length c.as_slice-operand-items.result.now
        → c.loop-operand.operand-index < length c.args.interface.now.operands
    inside is lt = omega (arith, lt, ap length is)

pub returns : goal.returns
returns c = flags_all c.args.interface.now (has_bit c.loop-operand.flags) c.loop-operand.operand-index
    (all c.as_slice-operand-items.ensures c.loop-operand-test.false) c.loop-operand.invariant
  where
    all : c.as_slice-operand-items.result.now ≡ c.args.interface.now.operands
        → length c.as_slice-operand-items.result.now ≤ c.loop-operand.operand-index
        → length c.args.interface.now.operands ≤ c.loop-operand.operand-index
    all is le = omega (arith, le, ap length is)
