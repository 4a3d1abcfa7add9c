use Rattle.dataflow.proofs.Words.{JoinsBelow}
use Rattle.dataflow.proofs.rows.join.Given as goal

abbrev pub invariant-loop-i : goal.invariant-loop-i
invariant-loop-i l = JoinsBelow l.i l.more l.grew l.initial.row l.row
