use Rattle.std.proofs.Common.{◌≡◌, ◌≤◌, ◌-◌, drop, length}
use Rattle.c_literals.specs.Raws.{bytes_of}
use Rattle.c_literals.specs.Literals.{read_from, read_all}
use Rattle.c_literals.proofs.LiteralLemmas.{after}
use Rattle.c_literals.proofs.literal.read_all.Given as goal

-- what was read, and what is left, are what the whole gives
abbrev pub invariant-loop-i : goal.invariant-loop-i
invariant-loop-i l = record {
  bytes : l.bytes.items ≡ bytes_of l.raws;
  within : l.i ≤ length l.raws;
  same : after l.list.items (read_from l.plain l.bytes.items l.i l.i (drop l.i l.raws)) ≡ read_all l.plain l.raws;
}

abbrev pub decreases-loop-i : goal.decreases-loop-i
decreases-loop-i l = length l.raws - l.i
