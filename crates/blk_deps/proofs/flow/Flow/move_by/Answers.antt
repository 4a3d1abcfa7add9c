use Rattle.blk_deps.proofs.FlowLemmas.{fits, room, moves_by}
use Rattle.blk_deps.proofs.flow.Flow.move_by.Goals as goal

pub step-requires-clause-fits : goal.step-requires-clause-fits
step-requires-clause-fits c =
    fits c.args.self.now c.requires.flow c.args.at c.requires.node c.index-self-at.result _ _ c.as_slice.ensures
    c.as_slice-2.ensures

pub step-requires-clause-hands : goal.step-requires-clause-hands
step-requires-clause-hands c =
    room c.args.self.now c.requires.flow c.args.at c.requires.node c.index-self-at.result _ _ c.as_slice.ensures
    c.as_slice-2.ensures
    c.args.hands.now c.requires.hands

pub returns-clause-facts : goal.returns-clause-facts
returns-clause-facts c =
    moves_by c.args.self.now c.requires.flow c.args.at c.requires.node c.index-self-at.result _ _ c.as_slice.ensures
    c.as_slice-2.ensures
    _ _ c.step.ensures.moves
