use Rattle.std.proofs.Common.{◌≡◌, ◌++◌, map, drop}
use Rattle.asm_core.specs.Lists.{count_from}
use Rattle.asm_core.specs.Company.{places_of, all_places}
use Rattle.asm_places.proofs.places.all_places.Given as goal

-- these, and those that are left
abbrev pub invariant-loop-k : goal.invariant-loop-k
invariant-loop-k l = l.places ++ map (places_of l.fn.i l.fn.s) (count_from l.k (drop l.k l.fn.i.operands)) ≡ all_places l.fn.i l.fn.s
