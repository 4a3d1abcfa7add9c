use Rattle.std.proofs.Common.{◌∙◌}
use Rattle.blk_deps.proofs.PutLemmas.{value_put}
use Rattle.blk_deps.proofs.row.putting.put_value.Goals as goal

pub returns-clause-facts : goal.returns-clause-facts
returns-clause-facts c =
    value_put c.args.layout.now c.requires.layout c.args.row.now c.put_words.new.words c.args.cell c.block.result c.block.ensures c.requires.size
    (c.put_words.ensures.size ∙ c.requires.size) c.args.from.now c.requires.from c.put_words.ensures.bits
