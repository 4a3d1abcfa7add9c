use Rattle.blk_deps.proofs.WordLemmas.{facts_set_bit}
use Rattle.blk_deps.proofs.words.set.Goals as goal

pub returns-clause-bits : goal.returns-clause-bits
returns-clause-bits c n = facts_set_bit c.args.words.now c.args.bit c.with_bit.result n c.args.on c.requires c.with_bit.ensures
