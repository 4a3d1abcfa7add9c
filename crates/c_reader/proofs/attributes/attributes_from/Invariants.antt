use Rattle.std.proofs.Common.{◌≡◌, ◌≤◌, ◌-◌, ◌<◌, ◌⊎◌, length}
use Rattle.c_reader.specs.Attributes.{attributes_from}
use Rattle.c_reader.proofs.attributes.attributes_from.Given as goal

-- what is left gives what the whole gives
abbrev pub invariant-loop-i : goal.invariant-loop-i
invariant-loop-i l = (l.first ≤ l.i) × (l.i ≡ l.fn.first ⊎ l.first < l.i) × (attributes_from l.source l.asked l.i ≡ attributes_from l.source l.fn.already l.first)

abbrev pub decreases-loop-i : goal.decreases-loop-i
decreases-loop-i l = length l.source.tokens - l.i
