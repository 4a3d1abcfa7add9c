-- Addresses, and the values of operands.
use Rattle.std.proofs.Common.{◌≡◌, pos, negsuc, [], ◌∷◌, None, Some, refl}
use Rattle.asm_core.specs.Entry.{spot_value}
use Rattle.asm_core.specs.Memory.{address_of}
use Rattle.asm_core.proofs.Examples.Machines.{fresh}
use Rattle.asm_core.proofs.Examples.Bytes.{low, high}
use Rattle.asm_core.specs.declared.reg.Reg.{Reg}
use Rattle.asm_core.specs.declared.placement.Base.{Base}
use Rattle.asm_core.specs.declared.placement.Spot.{Spot}

-- `-4(%ebx,%ecx,4)` where ebx is 2 and ecx is 3
with_all_parts : address_of (record { disp = negsuc 3; base = Some (Base.Reg Reg.Ebx); index = Some (Reg.Ecx, 4) }) fresh ≡ 10
with_all_parts = refl

-- `-4(%esp)` where esp is 4096
below_esp : address_of (record { disp = negsuc 3; base = Some Base.Esp; index = None }) fresh ≡ 4092
below_esp = refl

-- `-4(%eax)` where eax is 1: addresses are modulo 2^32
below_zero : address_of (record { disp = negsuc 3; base = Some (Base.Reg Reg.Eax); index = None }) fresh ≡ 4294967293
below_zero = refl

-- `(,%ebp,8)` where ebp is 7
scaled : address_of (record { disp = pos 0; base = None; index = Some (Reg.Ebp, 8) }) fresh ≡ 56
scaled = refl

-- esi, the fifth register, holds 5
in_register : spot_value (Spot.Register Reg.Esi) 4 fresh fresh ≡ 5
in_register = refl

-- the low byte of 258
low_byte : spot_value (Spot.Register Reg.Eax) 1 fresh (record fresh { regs = 258 ∷ [] }) ≡ 2
low_byte = refl

-- edx:eax where edx is 4 and eax is 1
in_the_pair : spot_value Spot.Pair 8 fresh fresh ≡ 17179869185
in_the_pair = refl

-- -1 as a number of two bytes
as_number : spot_value (Spot.Number (negsuc 0)) 2 fresh fresh ≡ 65535
as_number = refl

-- two bytes at `99(%eax)`, an address of the entry, though eax has changed since
at_entry_address : spot_value (Spot.Memory (record { disp = pos 99; base = Some (Base.Reg Reg.Eax); index = None })) 2 fresh (record fresh { regs = []; ranges = low ∷ high ∷ [] }) ≡ 5130
at_entry_address = refl
