use Rattle.std.proofs.Common.{◌∙◌}
use Rattle.blk_deps.proofs.ReachLemmas.{passes_of, passes_none}
use Rattle.blk_deps.proofs.rules.accesses.passes_some.Goals as goal

pub returns-in-Memory : goal.returns-in-Memory
returns-in-Memory c = c.passes_operand.ensures
    ∙ passes_of c.args.context.now.interface.now c.args.context.now.live.now c.args.access.now c.in-Memory.k
    c.in-Memory.is

pub returns-in_default : goal.returns-in_default
returns-in_default c = passes_none c.args.context.now.interface.now c.args.context.now.live.now c.args.access.now
    c.in_default.not-Memory
