use Rattle.std.proofs.Common.{◌≡◌, ◌-◌, length}
use Rattle.c_reader.specs.Declarators.{behind_qualifiers}
use Rattle.c_reader.proofs.reader.Reader.behind_qualifiers.Given as goal

-- what is left gives what the whole gives
abbrev pub invariant-loop-i : goal.invariant-loop-i
invariant-loop-i l = behind_qualifiers l.self.source.now l.i ≡ behind_qualifiers l.self.source.now l.first

abbrev pub decreases-loop-i : goal.decreases-loop-i
decreases-loop-i l = length l.self.source.now.tokens - l.i
