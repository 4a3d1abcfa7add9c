use Rattle.dataflow.specs.Solving.{IsSolving}
use Rattle.dataflow.specs.Working.{found_in, is_pending, left_to_do, IsWorkFor}
use Rattle.dataflow.proofs.solver.solve.Given as goal

abbrev pub invariant-loop-at : goal.invariant-loop-at
invariant-loop-at g l =
    let m = g.B.Block in
    let b = l.fn.block in
    (IsWorkFor (m.size b) (m.width b) l.work) × (m.IsScratch b l.scratch)
    × IsSolving (m.size b) (m.goes b) (m.start b) (m.after b) (found_in (m.number b) l.work) (is_pending l.work)

abbrev pub decreases-loop-at : goal.decreases-loop-at
decreases-loop-at g l = left_to_do l.work
