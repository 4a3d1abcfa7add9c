use Rattle.std.proofs.Common.{◌≤◌, length, All, subst}
use Rattle.std.proofs.lemmas.List.{take_all}
use Rattle.blk_deps.specs.declared.line.LineMoves.{LineMoves}
use Rattle.blk_deps.proofs.PathsNoted.{one_more_hand}
use Rattle.blk_deps.proofs.judged.most_hands.Goals as goal

pub loop-line-preserved : goal.loop-line-preserved
loop-line-preserved c =
    one_more_hand c.args.moves.now c.loop-line.line-index c.loop-line.most c.len.result c.max-most.result c.line-item.result
    c.loop-line-test.true c.line-item.is c.len.ensures c.max-most.ensures c.loop-line.invariant

pub returns : goal.returns
returns c =
    subst (λ ms. All (λ (m : LineMoves). length m.reads ≤ c.loop-line.most) ms) (take_all c.loop-line.line-index c.args.moves.now c.loop-line-test.false) c.loop-line.invariant
