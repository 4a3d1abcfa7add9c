-- The instructions: what each does, as a row of micro-operations (Intel SDM volume 2, 32-bit forms). The choice of
-- undefined and of named bits is this project's own.
pub mod Arithmetic
pub mod Atomics
pub mod Bits
pub mod Moves
pub mod Strings
use Rattle.std.specs.Prelude.{ℕ, List, [], Bool, true, false}
use Rattle.asm_core.specs.Table.Moves.{mov_row, movzbw_row, movzbl_row, movzwl_row, movsbw_row, movsbl_row, movswl_row, cltd_row, cwtl_row, lea_row, xchg_row, push_row, pop_row, bswap_row, cmov_row, set_row, jmp_row, jump_row, jecxz_row, loop_row}
use Rattle.asm_core.specs.Table.Arithmetic.{add_row, adc_row, sub_row, sbb_row, cmp_row, neg_row, inc_row, dec_row, and_row, or_row, xor_row, test_row, not_row, mul_row, imul_row, div_row, idiv_row, clc_row, stc_row, cmc_row, xor_self_row, sub_self_row, sbb_self_row}
use Rattle.asm_core.specs.Table.Bits.{shl_row, shr_row, sar_row, shld_row, shrd_row, rol_row, ror_row, by_count, bsf_row, bsr_row, bt_row, bts_row, btr_row, btc_row}
use Rattle.asm_core.specs.Table.Strings.{movs_row, stos_row, lods_row, cmps_row, scas_row, cld_row, std_row}
use Rattle.asm_core.specs.Table.Atomics.{xadd_row, cmpxchg_row, cmpxchg8b_row, cpuid_row, rdtsc_row}
use Rattle.asm_core.specs.declared.inst.Width.{Width}
use Rattle.asm_core.specs.declared.inst.Op.{Op}
use Rattle.asm_core.specs.declared.micro_op.MicroOp.{MicroOp}

-- what an instruction with that many operands does
abbrev pub row_of : Op → Width → ℕ → List MicroOp
row_of Op.Mov w n = mov_row
row_of Op.Movzbw w n = movzbw_row
row_of Op.Movzbl w n = movzbl_row
row_of Op.Movzwl w n = movzwl_row
row_of Op.Movsbw w n = movsbw_row
row_of Op.Movsbl w n = movsbl_row
row_of Op.Movswl w n = movswl_row
row_of Op.Lea w n = lea_row
row_of Op.Xchg w n = xchg_row
row_of Op.Push w n = push_row
row_of Op.Pop w n = pop_row
row_of Op.Bswap w n = bswap_row
row_of (Op.Cmov c) w n = cmov_row c
row_of (Op.Set c) w n = set_row c
row_of Op.Cltd w n = cltd_row
row_of Op.Cwtl w n = cwtl_row
row_of Op.Nop w n = []
row_of Op.Jmp w n = jmp_row
row_of (Op.J c) w n = jump_row c
row_of Op.Jecxz w n = jecxz_row
row_of Op.Loop w n = loop_row
row_of Op.Add w n = add_row
row_of Op.Sub w n = sub_row
row_of Op.Adc w n = adc_row
row_of Op.Sbb w n = sbb_row
row_of Op.Cmp w n = cmp_row
row_of Op.And w n = and_row
row_of Op.Or w n = or_row
row_of Op.Xor w n = xor_row
row_of Op.Test w n = test_row
row_of Op.Neg w n = neg_row
row_of Op.Not w n = not_row
row_of Op.Inc w n = inc_row
row_of Op.Dec w n = dec_row
row_of Op.Mul w n = mul_row w
row_of Op.Imul w n = imul_row w n
row_of Op.Div w n = div_row w
row_of Op.Idiv w n = idiv_row w
row_of Op.Clc w n = clc_row
row_of Op.Stc w n = stc_row
row_of Op.Cmc w n = cmc_row
row_of Op.Shl w n = by_count shl_row n
row_of Op.Shr w n = by_count shr_row n
row_of Op.Sar w n = by_count sar_row n
row_of Op.Rol w n = by_count rol_row n
row_of Op.Ror w n = by_count ror_row n
row_of Op.Shld w n = shld_row
row_of Op.Shrd w n = shrd_row
row_of Op.Bsf w n = bsf_row
row_of Op.Bsr w n = bsr_row
row_of Op.Bt w n = bt_row
row_of Op.Bts w n = bts_row
row_of Op.Btr w n = btr_row
row_of Op.Btc w n = btc_row
row_of Op.Movs w n = movs_row
row_of Op.Stos w n = stos_row
row_of Op.Lods w n = lods_row
row_of Op.Cmps w n = cmps_row
row_of Op.Scas w n = scas_row
row_of Op.Cld w n = cld_row
row_of Op.Std w n = std_row
row_of Op.Xadd w n = xadd_row
row_of Op.Cmpxchg w n = cmpxchg_row
row_of Op.Cmpxchg8b w n = cmpxchg8b_row
row_of Op.Cpuid w n = cpuid_row
row_of Op.Rdtsc w n = rdtsc_row

-- ---- lines whose operands, as they are written, say more than their values do

-- the operations that shift or rotate by a count, their first operand
abbrev pub is_shift : Op → Bool
is_shift Op.Shl = true
is_shift Op.Shr = true
is_shift Op.Sar = true
is_shift Op.Rol = true
is_shift Op.Ror = true
is_shift Op.Shld = true
is_shift Op.Shrd = true
is_shift op = false

-- the row of an operation on one register, given the one that it has on any two operands
abbrev pub self_row : Op → List MicroOp → List MicroOp
self_row Op.Xor row = xor_self_row
self_row Op.Sub row = sub_self_row
self_row Op.Sbb row = sbb_self_row
self_row op row = row
