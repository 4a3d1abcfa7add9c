use Rattle.att_reader.proofs.CutLemmas.{Left}
use Rattle.att_reader.proofs.cut.Cut.add_statement.Given as goal

abbrev pub invariant-loop-left : goal.invariant-loop-left
invariant-loop-left l = Left l.fn.self l.self l.statement.atoms.now l.left l.labels l.rest

abbrev pub decreases-loop-left : goal.decreases-loop-left
decreases-loop-left l = l.left
