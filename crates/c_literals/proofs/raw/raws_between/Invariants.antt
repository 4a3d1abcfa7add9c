use Rattle.std.proofs.Common.{◌≡◌, ◌++◌, ◌-◌, drop, length}
use Rattle.c_literals.specs.Raws.{raws_from, raws_between}
use Rattle.c_literals.proofs.raw.raws_between.Given as goal

-- what was read, and what is left, are what the whole gives
abbrev pub invariant-loop-i : goal.invariant-loop-i
invariant-loop-i l = l.raws.items ++ raws_from l.to l.i (drop l.i l.text) ≡ raws_between l.text l.fn.from l.to

abbrev pub decreases-loop-i : goal.decreases-loop-i
decreases-loop-i l = length l.text - l.i
