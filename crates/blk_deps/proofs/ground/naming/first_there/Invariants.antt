use Rattle.std.proofs.Common.{◌≡◌, ◌&&◌, drop}
use Rattle.std.specs.List.{find}
use Rattle.asm_core.specs.Lists.{count_from}
use Rattle.blk_deps.specs.Operands.{holds, numbers_in}
use Rattle.blk_deps.specs.Holding.{is_of}
use Rattle.blk_deps.proofs.ground.naming.first_there.Given as goal

-- what the operands that are left have first is what all of them have first
abbrev pub invariant-loop-k : goal.invariant-loop-k
invariant-loop-k l =
    find (λ k. is_of l.fn.of l.fn.interface k && holds l.fn.interface l.fn.shape l.fn.p k)
    (count_from l.k (drop l.k l.fn.interface.operands))
    ≡ find (λ k. is_of l.fn.of l.fn.interface k && holds l.fn.interface l.fn.shape l.fn.p k) (numbers_in l.fn.interface)
