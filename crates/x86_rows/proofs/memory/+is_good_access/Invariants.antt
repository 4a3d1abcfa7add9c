use Rattle.x86_rows.proofs.memory.+is_good_access.Given as goal

abbrev pub decreases-is_good_access : goal.decreases-is_good_access
decreases-is_good_access l = l.count
