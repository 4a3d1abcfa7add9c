-- The general registers in their order, and sets of them.
use Rattle.std.specs.Prelude.{◌≡◌, ℕ, ◌/◌, ◌%◌, ◌^◌, List, codes}
use Rattle.asm_core.specs.declared.reg.Reg.{Reg}
use Rattle.asm_core.specs.declared.reg.Reg.TheVariants.{Eax, Ebx, Ecx, Edx, Esi, Edi, Ebp}
use Rattle.asm_core.specs.declared.reg.RegSet.{RegSet}

-- the place of a register in their order
abbrev pub reg_number : Reg → ℕ
reg_number Eax = 0
reg_number Ebx = 1
reg_number Ecx = 2
reg_number Edx = 3
reg_number Esi = 4
reg_number Edi = 5
reg_number Ebp = 6

-- its name without the percent sign
abbrev pub reg_name : Reg → List ℕ
reg_name Eax = codes "eax"
reg_name Ebx = codes "ebx"
reg_name Ecx = codes "ecx"
reg_name Edx = codes "edx"
reg_name Esi = codes "esi"
reg_name Edi = codes "edi"
reg_name Ebp = codes "ebp"

-- the register is in the set
abbrev pub IsIn : RegSet → Reg → Type 0
IsIn s r = s.0 / 2 ^ reg_number r % 2 ≡ 1

-- all seven
abbrev pub all_regs : RegSet
all_regs = record { 0 = 127 }

abbrev pub no_regs : RegSet
no_regs = record { 0 = 0 }
