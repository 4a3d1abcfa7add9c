use Rattle.std.proofs.Common.{arith}
use Rattle.blk_deps.proofs.WordLemmas.{all_cleared}
use Rattle.blk_deps.proofs.words.clear.Goals as goal

pub returns-clause-bits : goal.returns-clause-bits
returns-clause-bits c = all_cleared c.args.words.now _ _ (omega arith) c.fill_first.ensures.bits
