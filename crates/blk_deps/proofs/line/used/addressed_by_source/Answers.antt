use Rattle.blk_deps.specs.Rules.{is_address_of}
use Rattle.blk_deps.proofs.OperandBits.{bits_of_more}
use Rattle.blk_deps.proofs.line.used.addressed_by_source.Goals as goal

pub loop-source-preserved : goal.loop-source-preserved
loop-source-preserved c = bits_of_more is_address_of c.args.sources.now c.loop-source.source-index _ _ _ c.loop-source-test.true c.loop-source.invariant c.address_bit-bits.ensures
