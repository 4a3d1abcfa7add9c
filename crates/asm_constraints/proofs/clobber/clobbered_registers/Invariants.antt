use Rattle.std.proofs.Common.{◌≡◌, take, bit_or, fold}
use Rattle.asm_core.specs.Clobber.{register_bit, register_named}
use Rattle.asm_core.specs.declared.statement.Quoted.{Quoted}
use Rattle.asm_constraints.proofs.clobber.clobbered_registers.Given as goal

abbrev pub invariant-loop-clobber : goal.invariant-loop-clobber
invariant-loop-clobber l = l.bits ≡ fold (λ bits (clobber : Quoted). bit_or bits (register_bit (register_named clobber.bytes))) 0 (take l.clobber-index l.clobbers)
