use Rattle.std.proofs.Common.{arith}
use Rattle.blk_deps.proofs.StoreLemmas.{store_shown}
use Rattle.blk_deps.proofs.row.putting.put_store.Goals as goal

pub returns-clause-facts : goal.returns-clause-facts
returns-clause-facts c =
    store_shown c.args.layout.now c.requires.layout c.args.row.now c.args.operand c.requires.operand c.requires.size c.args.first c.args.count
    c.below.result c.below-2.result c.below.ensures c.below-2.ensures (omega (arith, c.below-2.type_inv))
