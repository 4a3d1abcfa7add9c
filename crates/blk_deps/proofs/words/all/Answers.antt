use Rattle.std.proofs.Common.{sym, ◌∙◌}
use Rattle.blk_deps.proofs.WordLemmas.{has_all, has_none}
use Rattle.blk_deps.proofs.words.all.Goals as goal

pub returns-then-on : goal.returns-then-on
returns-then-on c b lt = has_all b lt ∙ sym c.if-on.true

pub returns-else-on : goal.returns-else-on
returns-else-on c b lt = has_none b ∙ sym c.if-on.false
