use Rattle.blk_deps.proofs.WordLemmas.{has_set, has_cleared}
use Rattle.blk_deps.proofs.words.with_bit.Goals as goal

pub returns-then-on : goal.returns-then-on
returns-then-on c b lt = rw c.if-on.true (has_set c.args.word c.args.bit b c.requires lt)

pub returns-else-on : goal.returns-else-on
returns-else-on c b lt = rw c.if-on.false (has_cleared c.args.word c.args.bit b c.requires lt)
