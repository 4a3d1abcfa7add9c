use Rattle.std.proofs.Common.{◌≡◌, ◌==◌, ◌&&◌, not, drop}
use Rattle.std.specs.List.{list_any}
use Rattle.asm_core.specs.Lists.{count_from}
use Rattle.asm_core.specs.Placement.{tie_root}
use Rattle.blk_deps.specs.Operands.{has_tied}
use Rattle.blk_deps.proofs.ground.memory.has_tied.Given as goal

-- the operands that are left have one that is tied where all have
abbrev pub invariant-loop-j : goal.invariant-loop-j
invariant-loop-j l =
    list_any (λ j. not (j == l.fn.k) && tie_root l.fn.interface l.fn.shape j == l.fn.k)
    (count_from l.j (drop l.j l.fn.interface.operands)) ≡ has_tied l.fn.interface l.fn.shape l.fn.k
