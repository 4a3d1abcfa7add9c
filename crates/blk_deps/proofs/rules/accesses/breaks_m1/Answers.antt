use Rattle.std.proofs.Common.{◌∙◌}
use Rattle.blk_deps.proofs.ReachLemmas.{reached}
use Rattle.blk_deps.proofs.rules.accesses.breaks_m1.Goals as goal

pub returns-then-not-context : goal.returns-then-not-context
returns-then-not-context c = c.some_undeclared.ensures
    ∙ reached c.args.context.now.interface.now c.args.context.now.live.now c.args.at.now.line.now
    c.args.at.now.accesses.now c.requires.line.accesses c.if-not-context.true
