use Rattle.std.proofs.Common.{◌∙◌}
use Rattle.blk_deps.proofs.StoreLemmas.{direction_shown}
use Rattle.blk_deps.proofs.row.putting.put_direction.Goals as goal

pub returns-clause-facts : goal.returns-clause-facts
returns-clause-facts c =
    direction_shown c.args.layout.now c.requires.layout c.args.row.now c.set.new.words c.args.on c.here_and-set.result (c.here_and-set.ensures c.args.layout.now)
    c.requires.size (c.set.ensures.size ∙ c.requires.size) c.set.ensures.bits
