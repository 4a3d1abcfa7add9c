-- Reading a register after one was written.
use Rattle.std.proofs.Common.{◌≡◌, ℕ, [], ◌∷◌, slice_index_or, slice_set, sym, ap, ◌∙◌, refl}
use Rattle.std.proofs.lemmas.List.{set-get_or, get_or-set_other}
use Rattle.asm_core.specs.Reg.{reg_number}
use Rattle.asm_core.specs.Machine.{reg_in, with_reg}
use Rattle.asm_core.specs.declared.reg.Reg.{Reg}
use Rattle.asm_core.specs.declared.reg.Reg.TheVariants.{Eax, Ebx, Ecx, Edx, Esi, Edi, Ebp}
use Rattle.asm_core.specs.declared.machine.Machine.{Machine}

abbrev reg_at : ℕ → Reg
reg_at n = slice_index_or (Eax ∷ Ebx ∷ Ecx ∷ Edx ∷ Esi ∷ Edi ∷ Ebp ∷ []) n Eax

reg_at-reg_number : (r : Reg) → reg_at (reg_number r) ≡ r
reg_at-reg_number Eax = refl
reg_at-reg_number Ebx = refl
reg_at-reg_number Ecx = refl
reg_at-reg_number Edx = refl
reg_at-reg_number Esi = refl
reg_at-reg_number Edi = refl
reg_at-reg_number Ebp = refl

-- registers with one place in their order are the same
pub same_reg : (q r : Reg) → reg_number q ≡ reg_number r → q ≡ r
same_reg q r e = sym (reg_at-reg_number q) ∙ ap reg_at e ∙ reg_at-reg_number r

pub other_reg_kept : (q r : Reg) (v : ℕ) (m : Machine) → (r ≡ q → ⊥) → reg_in q (with_reg r v m) ≡ reg_in q m
other_reg_kept q r v m apart = get_or-set_other m.regs (reg_number r) (reg_number q) v 0 (λ e. apart (sym (same_reg q r e)))

-- a register that is written with its own value leaves all registers as they were
pub own_value_kept : (r : Reg) (m : Machine) → slice_set m.regs (reg_number r) (reg_in r m) ≡ m.regs
own_value_kept r m = set-get_or m.regs (reg_number r) 0
