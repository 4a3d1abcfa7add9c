use Rattle.std.proofs.Common.{arith, ◌+◌}
use Rattle.std.proofs.lemmas.List.{take_rest}
use Rattle.att_reader.proofs.NamedLemmas.{written_more}
use Rattle.att_reader.proofs.named.written_bits.Goals as goal

pub loop-i-preserved : goal.loop-i-preserved
loop-i-preserved c = written_more c.args.codes.now c.loop-i.i c.loop-i.bits c.named_bit-bits.result _ (omega arith) (omega arith) c.loop-i.invariant (rw (take_rest c.args.codes.now (c.loop-i.i + 1)) at c.named_bit-bits.ensures)
