-- The operations of this family.
use Rattle.std.specs.Prelude.{Bool, true, false}
use Rattle.asm_core.specs.declared.inst.Op.{Op}

abbrev pub is_string : Op → Bool
is_string Op.Movs = true
is_string Op.Stos = true
is_string Op.Lods = true
is_string Op.Cmps = true
is_string Op.Scas = true
is_string Op.Cld = true
is_string Op.Std = true
is_string op = false
