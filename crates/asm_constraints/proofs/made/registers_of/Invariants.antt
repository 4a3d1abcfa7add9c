use Rattle.std.proofs.Common.{◌≡◌, take, bit_or, fold}
use Rattle.asm_core.specs.Interface.{symbol_bits}
use Rattle.asm_constraints.proofs.made.registers_of.Given as goal

abbrev pub invariant-loop-symbol : goal.invariant-loop-symbol
invariant-loop-symbol l = l.bits ≡ fold (λ bits s. bit_or bits (symbol_bits s)) 0 (take l.symbol-index l.alternative)
