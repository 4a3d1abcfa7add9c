use Rattle.std.proofs.Common.{arith}
use Rattle.blk_deps.proofs.ListingLemmas.{numbers_more, numbers_all}
use Rattle.blk_deps.proofs.listing.operand_names.Goals as goal

pub loop-k-preserved : goal.loop-k-preserved
loop-k-preserved c = numbers_more c.loop-k.names c.loop-k.k c.push.new.self c.loop-k.invariant c.in_ok-push.ensures.ok

pub returns : goal.returns
returns c = numbers_all c.args.interface.now c.loop-k.names c.loop-k.k (omega arith) c.loop-k.invariant
