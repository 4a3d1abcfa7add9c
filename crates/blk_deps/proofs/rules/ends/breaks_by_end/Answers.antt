use Rattle.blk_deps.proofs.rules.ends.breaks_by_end.Goals as goal

pub returns-in-W2 : goal.returns-in-W2
returns-in-W2 c = rw c.in-W2.is c.breaks_w2.ensures
