use Rattle.std.proofs.Common.{◌∙◌}
use Rattle.blk_deps.proofs.UseLemmas.{no_old_bit}
use Rattle.blk_deps.proofs.rules.uses.Uses.old.Goals as goal

pub returns-then-k-self : goal.returns-then-k-self
returns-then-k-self c = c.has_bit.ensures ∙ c.sources.ensures.old c.args.k c.if-k-self.true

pub returns-else-k-self : goal.returns-else-k-self
returns-else-k-self c = no_old_bit c.args.self.now.layout c.args.self.now.words.now c.args.k c.args.self.now.size
    c.if-k-self.false
