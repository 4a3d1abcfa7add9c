use Rattle.std.proofs.Common.{take}
use Rattle.std.specs.List.{list_any}
use Rattle.blk_deps.specs.Rules.{is_address_of}
use Rattle.blk_deps.specs.LineMoves.{AreBits}
use Rattle.blk_deps.proofs.line.used.addressed_by_source.Given as goal

abbrev pub invariant-loop-source : goal.invariant-loop-source
invariant-loop-source l = AreBits l.bits (λ k. list_any (is_address_of k) (take l.source-index l.sources))
