use Rattle.std.proofs.Common.{◌-◌, length}
use Rattle.c_tokens.proofs.CutLemmas.{IsScanned}
use Rattle.c_tokens.proofs.lexer.scan.Given as goal

abbrev pub invariant-loop-i : goal.invariant-loop-i
invariant-loop-i l = IsScanned l.text l.list l.i

abbrev pub decreases-loop-i : goal.decreases-loop-i
decreases-loop-i l = length l.text - l.i
