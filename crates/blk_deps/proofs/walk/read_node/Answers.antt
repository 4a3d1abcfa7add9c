use Rattle.blk_deps.proofs.NodeLemmas.{hands_kept, fit_reads, room_for, holds, used_there, shows_used}
use Rattle.blk_deps.proofs.walk.read_node.Goals as goal

pub read_all-requires-clause-fits : goal.read_all-requires-clause-fits
read_all-requires-clause-fits c = fit_reads c.args.walk.now c.requires.walk c.args.n c.requires.node _ _ c.as_slice.ensures

pub read_all-requires-clause-hands : goal.read_all-requires-clause-hands
read_all-requires-clause-hands c = room_for c.args.walk.now c.requires.walk c.args.n c.requires.node _ _ c.args.hands.now c.as_slice.ensures c.requires.hands

pub collect_used-requires-clause-used : goal.collect_used-requires-clause-used
collect_used-requires-clause-used c =
    used_there c.args.walk.now c.requires.walk c.args.n c.requires.node _ _ c.read_all.new.hands c.as_slice-2.ensures
    (hands_kept c.args.walk.now c.args.hands.now c.read_all.new.hands c.read_all.ensures.size c.requires.hands)

pub returns-clause-hands : goal.returns-clause-hands
returns-clause-hands c = hands_kept c.args.walk.now c.args.hands.now c.read_all.new.hands c.read_all.ensures.size c.requires.hands

pub returns-clause-reads : goal.returns-clause-reads
returns-clause-reads c =
    holds c.args.walk.now c.requires.walk c.args.n c.requires.node _ c.args.row.now c.read_all.new.hands _ c.as_slice.ensures c.read_all.ensures.held

pub returns-clause-uses : goal.returns-clause-uses
returns-clause-uses c =
    shows_used c.args.walk.now c.requires.walk c.args.n c.requires.node _ c.args.row.now c.read_all.new.hands _ c.collect_used.new.to c.as_slice-2.ensures
    (hands_kept c.args.walk.now c.args.hands.now c.read_all.new.hands c.read_all.ensures.size c.requires.hands)
    (holds c.args.walk.now c.requires.walk c.args.n c.requires.node _ c.args.row.now c.read_all.new.hands _ c.as_slice.ensures c.read_all.ensures.held)
    c.collect_used.ensures.used
