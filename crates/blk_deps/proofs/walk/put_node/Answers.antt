use Rattle.blk_deps.proofs.NodeLemmas.{fit_puts, moved_on}
use Rattle.blk_deps.proofs.walk.put_node.Goals as goal

pub put_all-requires-clause-fits : goal.put_all-requires-clause-fits
put_all-requires-clause-fits c =
    fit_puts c.args.walk.now c.requires.walk c.args.n c.requires.node _ _ c.args.hands.now c.as_slice.ensures c.requires.hands

pub returns-clause-facts : goal.returns-clause-facts
returns-clause-facts c =
    moved_on c.args.walk.now c.requires.walk c.args.n c.requires.node _ _ c.args.hands.now c.args.row.now _ c.as_slice.ensures c.requires.reads c.put_all.ensures.moves
