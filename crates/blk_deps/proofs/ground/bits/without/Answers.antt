use Rattle.std.proofs.Common.{arith, ◌<◌}
use Rattle.blk_deps.proofs.GroundBits.{and_not_bit}
use Rattle.blk_deps.proofs.ground.bits.without.Goals as goal

pub returns : goal.returns
returns c = λ k within. let fits : c.args.other < 18446744073709551616 = omega arith in and_not_bit c.args.word
    c.args.other k fits within
