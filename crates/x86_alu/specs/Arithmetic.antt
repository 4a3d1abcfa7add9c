-- The operations of this family.
use Rattle.std.specs.Prelude.{Bool, true, false}
use Rattle.asm_core.specs.declared.inst.Op.{Op}

abbrev pub is_arithmetic : Op → Bool
is_arithmetic Op.Add = true
is_arithmetic Op.Sub = true
is_arithmetic Op.Adc = true
is_arithmetic Op.Sbb = true
is_arithmetic Op.Cmp = true
is_arithmetic Op.And = true
is_arithmetic Op.Or = true
is_arithmetic Op.Xor = true
is_arithmetic Op.Test = true
is_arithmetic Op.Neg = true
is_arithmetic Op.Not = true
is_arithmetic Op.Inc = true
is_arithmetic Op.Dec = true
is_arithmetic Op.Mul = true
is_arithmetic Op.Imul = true
is_arithmetic Op.Div = true
is_arithmetic Op.Idiv = true
is_arithmetic Op.Clc = true
is_arithmetic Op.Stc = true
is_arithmetic Op.Cmc = true
is_arithmetic op = false
