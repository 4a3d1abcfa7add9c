use Rattle.std.proofs.Common.{◌≡◌, ◌<◌, ◌-◌, length}
use Rattle.c_decls.specs.Recovery.{last_name}
use Rattle.c_decls.proofs.identifier_list.last_name.Given as goal

-- what is left gives what the whole gives
abbrev pub invariant-loop-i : goal.invariant-loop-i
invariant-loop-i l = (l.first < 4294967296 → l.i < 4294967298) × (last_name l.source l.i ≡ last_name l.source l.first)

abbrev pub decreases-loop-i : goal.decreases-loop-i
decreases-loop-i l = length l.source.tokens - l.i
