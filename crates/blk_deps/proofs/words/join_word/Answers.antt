use Rattle.blk_deps.proofs.WordLemmas.{facts_join_word}
use Rattle.blk_deps.proofs.words.join_word.Goals as goal

pub returns-clause-bits : goal.returns-clause-bits
returns-clause-bits c n = facts_join_word c.args.words.now c.args.at c.args.more n c.requires
