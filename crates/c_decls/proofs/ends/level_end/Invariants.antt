use Rattle.std.proofs.Common.{◌≡◌, ◌≤◌, ◌<◌, ◌⊎◌, ◌-◌, length}
use Rattle.c_decls.specs.Ends.{level_end}
use Rattle.c_decls.proofs.ends.level_end.Given as goal

-- what is left gives what the whole gives
abbrev pub invariant-loop-i : goal.invariant-loop-i
invariant-loop-i l = (l.i ≡ l.first ⊎ l.first < l.i) × (l.first ≤ length l.source.tokens → l.i ≤ length l.source.tokens) × (level_end l.source l.stop l.i ≡ level_end l.source l.stop l.first)

abbrev pub decreases-loop-i : goal.decreases-loop-i
decreases-loop-i l = length l.source.tokens - l.i
