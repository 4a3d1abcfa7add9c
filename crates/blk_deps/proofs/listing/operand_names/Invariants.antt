use Rattle.std.proofs.Common.{◌≡◌, map}
use Rattle.std.specs.List.{range_with_len}
use Rattle.asm_core.specs.declared.finding.Cell.{Cell}
use Rattle.blk_deps.proofs.listing.operand_names.Given as goal

abbrev pub invariant-loop-k : goal.invariant-loop-k
invariant-loop-k l = l.names ≡ map Cell.Operand (range_with_len 0 l.k)
