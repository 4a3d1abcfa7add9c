use Rattle.std.proofs.Common.{◌≡◌, ◌≤◌, ◌<◌, ◌-◌, ◌⊎◌, length}
use Rattle.c_reader.specs.Leaves.{texts_end}
use Rattle.c_reader.proofs.reader.Reader.texts_end.Given as goal

-- what is left gives what the whole gives
abbrev pub invariant-loop-i : goal.invariant-loop-i
invariant-loop-i l = (l.i ≡ l.first ⊎ l.first < l.i) × (l.first ≤ length l.self.source.now.tokens → l.i ≤ length l.self.source.now.tokens) × (texts_end l.self.source.now l.i ≡ texts_end l.self.source.now l.first)

abbrev pub decreases-loop-i : goal.decreases-loop-i
decreases-loop-i l = length l.self.source.now.tokens - l.i
