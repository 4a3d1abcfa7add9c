use Rattle.std.proofs.Common.{◌≡◌, drop, slice_get}
use Rattle.std.specs.List.{list_any}
use Rattle.asm_core.specs.Lists.{count_from}
use Rattle.blk_check.specs.Readable.{output_differs_at}
use Rattle.blk_check.proofs.differing.some_output_differs.Given as goal

-- it is among those that are left
abbrev pub invariant-loop-k : goal.invariant-loop-k
invariant-loop-k l = list_any (λ k. output_differs_at l.fn.places k (slice_get l.fn.interface.operands k)) (count_from l.k (drop l.k l.fn.interface.operands))
    ≡ list_any (λ k. output_differs_at l.fn.places k (slice_get l.fn.interface.operands k)) (count_from 0 l.fn.interface.operands)
