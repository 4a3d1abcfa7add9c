-- The names of a clobber list (GCC manual, "Clobbers and Scratch Registers"). The part of a register stands for the whole of
-- it. A name that isn't here, as that of the stack pointer, lies outside this project's tables.
use Rattle.std.specs.Prelude.{ℕ, ◌^◌, ◌==◌, ◌||◌, bit_or, fold, List, [], ◌∷◌, codes, Bool, false, not, is_some, Option, None, Some, slice_index, drop, if◌then◌else◌}
use Rattle.std.specs.List.{list_any}
use Rattle.asm_core.specs.Reg.{reg_number}
use Rattle.asm_core.specs.Cond.{entry_named}
use Rattle.asm_core.specs.Constraint.{same}
use Rattle.asm_core.specs.declared.reg.Reg.{Reg}
use Rattle.asm_core.specs.declared.reg.Reg.TheVariants.{Eax, Ebx, Ecx, Edx, Esi, Edi, Ebp}
use Rattle.asm_core.specs.declared.reg.RegSet.{RegSet}
use Rattle.asm_core.specs.declared.statement.Quoted.{Quoted}

abbrev pub register_names : List (List ℕ × Reg)
register_names =
    (codes "eax", Eax) ∷ (codes "ax", Eax) ∷ (codes "al", Eax) ∷ (codes "ah", Eax)
    ∷ (codes "ebx", Ebx) ∷ (codes "bx", Ebx) ∷ (codes "bl", Ebx) ∷ (codes "bh", Ebx)
    ∷ (codes "ecx", Ecx) ∷ (codes "cx", Ecx) ∷ (codes "cl", Ecx) ∷ (codes "ch", Ecx)
    ∷ (codes "edx", Edx) ∷ (codes "dx", Edx) ∷ (codes "dl", Edx) ∷ (codes "dh", Edx)
    ∷ (codes "esi", Esi) ∷ (codes "si", Esi) ∷ (codes "edi", Edi) ∷ (codes "di", Edi) ∷ (codes "ebp", Ebp) ∷ (codes "bp", Ebp) ∷ []

-- a percent sign may stand before the name
abbrev pub bare_name : List ℕ → List ℕ
bare_name name = if slice_index name 0 == 37 then drop 1 name else name

unfoldable pub register_named : List ℕ → Option Reg
register_named name = entry_named (bare_name name) register_names

abbrev pub is_memory : Quoted → Bool
is_memory clobber = same clobber.bytes (codes "memory")

abbrev pub is_cc : Quoted → Bool
is_cc clobber = same clobber.bytes (codes "cc")

unfoldable pub is_unknown : Quoted → Bool
is_unknown clobber = not (is_memory clobber || (is_cc clobber || is_some (register_named clobber.bytes)))

abbrev pub is_register : Reg → Option Reg → Bool
is_register r None = false
is_register r (Some q) = reg_number r == reg_number q

-- some clobber names the register
unfoldable pub is_clobbered : List Quoted → Reg → Bool
is_clobbered clobbers r = list_any (λ (clobber : Quoted). is_register r (register_named clobber.bytes)) clobbers

abbrev pub register_bit : Option Reg → ℕ
register_bit None = 0
register_bit (Some r) = 2 ^ reg_number r

-- the registers that are named
unfoldable pub clobbered_registers : List Quoted → RegSet
clobbered_registers clobbers = record { 0 = fold (λ bits (clobber : Quoted). bit_or bits (register_bit (register_named clobber.bytes))) 0 clobbers }
