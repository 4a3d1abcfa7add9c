use Rattle.std.proofs.Common.{◌≡◌, take, fold, None}
use Rattle.asm_core.specs.Interface.{joined, symbol_range}
use Rattle.asm_constraints.proofs.range.range_of.Given as goal

abbrev pub invariant-loop-symbol : goal.invariant-loop-symbol
invariant-loop-symbol l = l.range ≡ fold (λ range s. joined range (symbol_range s)) None (take l.symbol-index l.alternative)
