use Rattle.std.proofs.Common.{◌≡◌, ◌≤◌, ◌-◌, length}
use Rattle.c_reader.specs.Declarators.{pointers_at}
use Rattle.c_reader.proofs.PointerLemmas.{pointers_from}
use Rattle.c_reader.proofs.pointers.pointers_at.Given as goal

-- what is left gives what the whole gives
abbrev pub invariant-loop-i : goal.invariant-loop-i
invariant-loop-i l = (l.first ≤ l.i) × (pointers_from l.source l.i l.found ≡ pointers_at l.source l.fn.base l.first)

abbrev pub decreases-loop-i : goal.decreases-loop-i
decreases-loop-i l = length l.source.tokens - l.i
