use Rattle.std.proofs.Common.{◌∙◌, arith}
use Rattle.blk_deps.specs.Operands.{is_changing}
use Rattle.blk_deps.specs.Ground.{has_bit}
use Rattle.blk_deps.proofs.GroundBits.{no_bit}
use Rattle.blk_deps.proofs.Gathering.{tells_start, tells_more, tells_all}
use Rattle.blk_deps.proofs.ground.memory.changing_operands.Goals as goal

pub loop-k-init : goal.loop-k-init
loop-k-init c = tells_start (has_bit 0) (is_changing c.args.live.now) no_bit

pub loop-k-preserved : goal.loop-k-preserved
loop-k-preserved c = tells_more (has_bit c.loop-k.word) (has_bit c.with_bit-word.result) (is_changing c.args.live.now)
    c.loop-k.k _ c.is_changing.ensures c.with_bit-word.ensures c.loop-k.invariant

pub returns : goal.returns
returns c = λ k within. c.low_half.ensures k within
    ∙ tells_all (has_bit c.loop-k.word) (is_changing c.args.live.now) c.loop-k.k k c.loop-k.invariant
    (omega (arith, within, c.loop-k-test.false)) (omega (arith, within))
