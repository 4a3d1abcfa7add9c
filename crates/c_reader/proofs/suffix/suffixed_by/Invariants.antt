use Rattle.std.proofs.Common.{◌≡◌, length}
use Rattle.c_reader.specs.Declarators.{suffixed_by}
use Rattle.c_reader.proofs.suffix.suffixed_by.Given as goal

-- what is left gives what the whole gives
abbrev pub invariant-loop-last : goal.invariant-loop-last
invariant-loop-last l = suffixed_by l.list l.ctype ≡ suffixed_by l.fn.list l.fn.base

abbrev pub decreases-loop-last : goal.decreases-loop-last
decreases-loop-last l = length l.list
