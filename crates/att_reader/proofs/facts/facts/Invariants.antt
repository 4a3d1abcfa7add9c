use Rattle.std.proofs.Common.{◌≡◌, map}
use Rattle.std.specs.List.{range_with_len}
use Rattle.asm_core.specs.Reading.Facts.{facts_of}
use Rattle.att_reader.proofs.facts.facts.Given as goal

-- those of the first operands
abbrev pub invariant-loop-k : goal.invariant-loop-k
invariant-loop-k l = l.facts.items ≡ map (facts_of l.interface l.shape) (range_with_len 0 l.k)
