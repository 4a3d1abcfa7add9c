use Rattle.std.proofs.Common.{◌≡◌, ◌+◌, ◌*◌, ◌≤◌, ◌++◌, drop}
use Rattle.blk_deps.specs.Line.{stored_from, hand_count}
use Rattle.blk_deps.proofs.line.used.used_hands.Given as goal

abbrev pub invariant-loop-write : goal.invariant-loop-write
invariant-loop-write l =
    (stored_from 0 l.writes ≡ l.hands ++ stored_from l.hand (drop l.write-index l.writes))
    × (hand_count l.writes ≡ l.hand + hand_count (drop l.write-index l.writes))
    × (l.hand ≤ 8 * l.write-index)
