use Rattle.std.proofs.Common.{◌≡◌, ℕ, ◌/◌, ◌||◌, nat_lt, if◌then◌else◌}
use Rattle.dataflow.specs.Bits.{facts_in}
use Rattle.blk_deps.proofs.words.join.Given as goal

abbrev pub invariant-loop-i : goal.invariant-loop-i
invariant-loop-i l = (n : ℕ) → facts_in l.words n
    ≡ (if nat_lt (n / 64) l.i then facts_in l.initial.words n || facts_in l.more n else facts_in l.initial.words n)
