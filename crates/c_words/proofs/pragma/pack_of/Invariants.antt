use Rattle.std.proofs.Common.{◌≡◌, ◌-◌, drop, length}
use Rattle.c_words.specs.Pragma.{pack_from, pack_of}
use Rattle.c_words.proofs.pragma.pack_of.Given as goal

-- what is left gives what the whole gives
abbrev pub invariant-loop-i : goal.invariant-loop-i
invariant-loop-i l = pack_from l.sought l.i (drop l.i l.text) ≡ pack_of l.text

abbrev pub decreases-loop-i : goal.decreases-loop-i
decreases-loop-i l = length l.text - l.i
