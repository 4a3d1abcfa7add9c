use Rattle.std.proofs.Common.{◌≡◌, ◌-◌}
use Rattle.c_reader.specs.Attributes.{asked_between, asked_until}
use Rattle.c_reader.proofs.attributes.asked_between.Given as goal

-- what is left gives what the whole gives
abbrev pub invariant-loop-i : goal.invariant-loop-i
invariant-loop-i l = asked_until l.source l.end l.i l.asked ≡ asked_between l.source l.first l.end

abbrev pub decreases-loop-i : goal.decreases-loop-i
decreases-loop-i l = l.end - l.i
