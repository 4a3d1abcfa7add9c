-- The operations of this family.
use Rattle.std.specs.Prelude.{Bool, true, false}
use Rattle.asm_core.specs.declared.inst.Op.{Op}

abbrev pub is_atomic : Op → Bool
is_atomic Op.Xadd = true
is_atomic Op.Cmpxchg = true
is_atomic Op.Cmpxchg8b = true
is_atomic Op.Cpuid = true
is_atomic Op.Rdtsc = true
is_atomic op = false
