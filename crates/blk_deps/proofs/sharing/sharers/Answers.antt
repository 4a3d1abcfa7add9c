use Rattle.blk_deps.proofs.SharingLaws.{told}
use Rattle.blk_deps.proofs.sharing.sharers.Goals as goal

pub returns-clause-tells : goal.returns-clause-tells
returns-clause-tells c = told _ _ _ c.requires.interface.few c.all_words.ensures.count c.all_words.ensures.words
