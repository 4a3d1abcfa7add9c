use Rattle.x86_rows.proofs.memory.+set_word.Given as goal

abbrev pub decreases-set_word : goal.decreases-set_word
decreases-set_word l = l.count
