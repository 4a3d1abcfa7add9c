use Rattle.c_tokens.proofs.CloserLemmas.{IsClosing}
use Rattle.c_tokens.proofs.closing.closers.Given as goal

abbrev pub invariant-loop-i : goal.invariant-loop-i
invariant-loop-i l = IsClosing l.text l.tokens.list l.closers.items l.opened.items l.i
