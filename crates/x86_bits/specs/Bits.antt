-- The operations of this family.
use Rattle.std.specs.Prelude.{Bool, true, false}
use Rattle.asm_core.specs.declared.inst.Op.{Op}

abbrev pub is_of_bits : Op → Bool
is_of_bits Op.Shl = true
is_of_bits Op.Shr = true
is_of_bits Op.Sar = true
is_of_bits Op.Rol = true
is_of_bits Op.Ror = true
is_of_bits Op.Shld = true
is_of_bits Op.Shrd = true
is_of_bits Op.Bsf = true
is_of_bits Op.Bsr = true
is_of_bits Op.Bt = true
is_of_bits Op.Bts = true
is_of_bits Op.Btr = true
is_of_bits Op.Btc = true
is_of_bits op = false
