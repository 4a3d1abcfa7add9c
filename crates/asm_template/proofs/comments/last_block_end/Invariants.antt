use Rattle.asm_template.proofs.CommentLemmas.{IsLast}
use Rattle.asm_template.proofs.comments.last_block_end.Given as goal

abbrev pub invariant-loop-end : goal.invariant-loop-end
invariant-loop-end l = IsLast l.codes l.end

abbrev pub decreases-loop-end : goal.decreases-loop-end
decreases-loop-end l = l.end
