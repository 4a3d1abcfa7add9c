use Rattle.blk_deps.proofs.GroundBits.{set_where}
use Rattle.blk_deps.proofs.ground.bits.with_bit.Goals as goal

pub returns-then-on : goal.returns-then-on
returns-then-on c = λ k within. set_where c.args.word c.args.n k c.requires c.args.on c.if-on.true
