-- The operations of this family.
use Rattle.std.specs.Prelude.{Bool, true, false}
use Rattle.asm_core.specs.declared.inst.Op.{Op}

abbrev pub is_move : Op → Bool
is_move Op.Mov = true
is_move Op.Movzbw = true
is_move Op.Movzbl = true
is_move Op.Movzwl = true
is_move Op.Movsbw = true
is_move Op.Movsbl = true
is_move Op.Movswl = true
is_move Op.Lea = true
is_move Op.Xchg = true
is_move Op.Push = true
is_move Op.Pop = true
is_move Op.Bswap = true
is_move (Op.Cmov c) = true
is_move (Op.Set c) = true
is_move Op.Cltd = true
is_move Op.Cwtl = true
is_move Op.Nop = true
is_move Op.Jmp = true
is_move (Op.J c) = true
is_move Op.Jecxz = true
is_move Op.Loop = true
is_move op = false
