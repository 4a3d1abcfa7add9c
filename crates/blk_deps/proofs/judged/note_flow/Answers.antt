use Rattle.std.proofs.Common.{rules}
use Rattle.blk_deps.proofs.PathsNoted.{have_hands}
use Rattle.blk_deps.proofs.judged.note_flow.Goals as goal

pub solve-requires-clause-hands : goal.solve-requires-clause-hands
solve-requires-clause-hands c = have_hands c.args.walk.now.flow c.in_ok-hands.hands.items c.most_hands.result c.most_hands.ensures (search rules)

pub note_straight-requires-clause-hands : goal.note_straight-requires-clause-hands
note_straight-requires-clause-hands c =
    have_hands c.args.walk.now.flow c.deref_mut.result.now c.most_hands.result c.most_hands.ensures (search rules)
