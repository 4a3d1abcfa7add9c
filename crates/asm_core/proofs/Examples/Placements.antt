-- Placements that are allowed, and some that break one rule.
use Rattle.std.proofs.Common.{◌≡◌, inl, inr, ℕ, zero, suc, pos, ◌≤ℤ◌, [], ◌∷◌, replicate, true, false, IsTrue, Some, slice_get, refl, ap, sym, subst, subst₂, ◌∙◌, arith}
use Rattle.std.proofs.lemmas.Int.{ints}
use Rattle.asm_core.specs.Reg.{no_regs, IsIn}
use Rattle.asm_core.specs.Placement.{spot_of, tie_root, is_output, Fits, HasOperand, IsAllowed, IsRoomy}
use Rattle.asm_core.proofs.Examples.Shapes.{any_register, interface, operand, shape, tied_to, m}
use Rattle.asm_core.specs.declared.reg.Reg.{Reg}
use Rattle.asm_core.specs.declared.reg.RegSet.{RegSet}
use Rattle.asm_core.specs.declared.shape.Kind.{Kind}
use Rattle.asm_core.specs.declared.shape.Shape.{Shape}
use Rattle.asm_core.specs.declared.interface.Role.{Role}
use Rattle.asm_core.specs.declared.interface.AltIface.{AltIface}
use Rattle.asm_core.specs.declared.interface.OperandIface.{OperandIface}
use Rattle.asm_core.specs.declared.interface.Interface.{Interface}
use Rattle.asm_core.specs.declared.placement.Base.{Base}
use Rattle.asm_core.specs.declared.placement.Spot.{Spot}
use Rattle.asm_core.specs.declared.placement.Placement.{Placement}

-- two operands in these places
abbrev pub placement : Spot → Spot → Placement
placement first second = record { spots = first ∷ second ∷ replicate 28 (Spot.Number (pos 0)); count = 2 }

abbrev pub registers : Shape
registers = shape 0 (Kind.Register ∷ Kind.Register ∷ [])

-- both operands in eax
abbrev pub in_eax : Placement
in_eax = placement (Spot.Register Reg.Eax) (Spot.Register Reg.Eax)

-- ---- `"=r"(y):"r"(x)`: the output may share its register with the input

abbrev pub copying : Interface
copying = interface (operand Role.Out (any_register ∷ []) ∷ operand Role.In (any_register ∷ []) ∷ [])

-- what stands there of an operand
record IsShared (k : ℕ) (alt : AltIface) (kind : Kind) : Type 0 where
  any : alt ≡ any_register
  register : kind ≡ Kind.Register
  here : spot_of in_eax k ≡ Spot.Register Reg.Eax

is_shared : (k : ℕ) (o : OperandIface) (alt : AltIface) (kind : Kind) → HasOperand copying registers k o alt kind → IsShared k alt kind
is_shared zero o alt kind h =
    let same : operand Role.Out (any_register ∷ []) ≡ o = cc (h.is_operand) in
    let alternative : Some any_register ≡ Some alt = ap (λ (x : OperandIface). slice_get x.alts 0) same ∙ h.is_alternative in
    record { any = cc; register = cc (h.is_kind); here = refl }
is_shared (suc zero) o alt kind h =
    let same : operand Role.In (any_register ∷ []) ≡ o = cc (h.is_operand) in
    let alternative : Some any_register ≡ Some alt = ap (λ (x : OperandIface). slice_get x.alts 0) same ∙ h.is_alternative in
    record { any = cc; register = cc (h.is_kind); here = refl }
is_shared (suc (suc k)) o alt kind h = cc (h.is_operand)

nothing_clobbered : IsIn no_regs Reg.Eax → ⊥
nothing_clobbered h = omega arith

any_fits : (o : OperandIface) (alt : AltIface) (kind : Kind) (spot : Spot) → alt ≡ any_register → kind ≡ Kind.Register → spot ≡ Spot.Register Reg.Eax → Fits copying o alt kind spot
any_fits o alt kind spot any register here =
    subst₂ (λ k s. Fits copying o alt k s) (sym register) (sym here) (subst (λ (a : AltIface). IsIn a.regs Reg.Eax) (sym any) refl, nothing_clobbered)

one_output : (k : ℕ) (o : OperandIface) → slice_get copying.operands k ≡ Some o → IsTrue (is_output o.role) → k ≡ 0
one_output zero o is out = refl
one_output (suc zero) o is out =
    let same : operand Role.In (any_register ∷ []) ≡ o = cc in
    let wrong : false ≡ true = ap (λ (x : OperandIface). is_output x.role) same ∙ out in
    cc
one_output (suc (suc k)) o is out = cc

untied : (k : ℕ) → tie_root copying registers k ≡ k
untied zero = refl
untied (suc zero) = refl
untied (suc (suc k)) = refl

pub sharing_is_allowed : IsAllowed copying registers in_eax
sharing_is_allowed = record {
  count = refl;
  fits = λ k o alt kind h untied. let c = is_shared k o alt kind h in any_fits o alt kind (spot_of in_eax k) c.any c.register c.here;
  ties = λ k. ap (spot_of in_eax) (sym (untied k));
  outputs_apart = λ k j o q is_k is_j out_k out_j apart. absurd (apart (one_output k o is_k out_k ∙ sym (one_output j q is_j out_j)));
  early_apart = λ k j o q alt kind h is_j early apart. let wrong : false ≡ true = ap (λ (a : AltIface). a.early) (sym (is_shared k o alt kind h).any) ∙ early in cc;
}

-- `:"r"(x),"r"(z)` with both inputs in eax is allowed where their values are equal, but not roomy
abbrev two_inputs : Interface
two_inputs = interface (operand Role.In (any_register ∷ []) ∷ operand Role.In (any_register ∷ []) ∷ [])

inputs_share : IsRoomy two_inputs registers in_eax → ⊥
inputs_share h = h.inputs_apart 0 1 (operand Role.In (any_register ∷ [])) (operand Role.In (any_register ∷ [])) refl refl (λ e. omega arith) Reg.Eax (inl refl) (inl refl)

-- ---- what is refused

abbrev eax_alone : RegSet
eax_alone = record { 0 = 1 }

abbrev early : AltIface
early = record any_register { early = true }

-- `"=r"(y),"=r"(z)`: two outputs are apart
outputs_share : IsAllowed (interface (operand Role.Out (any_register ∷ []) ∷ operand Role.Out (any_register ∷ []) ∷ [])) registers in_eax → ⊥
outputs_share h = h.outputs_apart 0 1 (operand Role.Out (any_register ∷ [])) (operand Role.Out (any_register ∷ [])) refl refl refl refl (λ e. omega arith) Reg.Eax (inl refl) (inl refl)

-- the pair and eax too
pair_shares : IsAllowed (interface (operand Role.Out (record any_register { regs = no_regs; pair = true } ∷ []) ∷ operand Role.InOut (any_register ∷ []) ∷ [])) registers (placement Spot.Pair (Spot.Register Reg.Eax)) → ⊥
pair_shares h = h.outputs_apart 0 1 (operand Role.Out (record any_register { regs = no_regs; pair = true } ∷ [])) (operand Role.InOut (any_register ∷ [])) refl refl refl refl (λ e. omega arith) Reg.Eax (inl refl) (inl refl)

-- `"=&r"(y):"r"(x)`: an early output is apart from an input
early_shares : IsAllowed (interface (operand Role.Out (early ∷ []) ∷ operand Role.In (any_register ∷ []) ∷ [])) registers in_eax → ⊥
early_shares h =
    h.early_apart 0 1 (operand Role.Out (early ∷ [])) (operand Role.In (any_register ∷ [])) early Kind.Register (record { is_operand = refl; is_alternative = refl; is_kind = refl }) refl refl (λ e. omega arith) Reg.Eax (inl refl) (inl refl)

-- `"=&r"(y):"m"(x)`: and from an address
early_in_address : IsAllowed (interface (operand Role.Out (early ∷ []) ∷ operand Role.In (m ∷ []) ∷ [])) (shape 0 (Kind.Register ∷ Kind.Memory ∷ []))
    (placement (Spot.Register Reg.Eax) (Spot.Memory (record { disp = pos 4; base = Some (Base.Reg Reg.Ebx); index = Some (Reg.Eax, 2) }))) → ⊥
early_in_address h =
    h.early_apart 0 1 (operand Role.Out (early ∷ [])) (operand Role.In (m ∷ [])) early Kind.Register (record { is_operand = refl; is_alternative = refl; is_kind = refl }) refl refl (λ e. omega arith) Reg.Eax (inl refl) (inr (inl refl))

-- `"=r"(y):"r"(x):"eax"`: eax is not for operands
clobbered : IsAllowed (record copying { clobbers = eax_alone }) registers in_eax → ⊥
clobbered h = (h.fits 0 (operand Role.Out (any_register ∷ [])) any_register Kind.Register (record { is_operand = refl; is_alternative = refl; is_kind = refl }) refl).1 refl

-- `"=b"(y):"r"(x)`: eax is not among the letters
not_its_letter : IsAllowed (interface (operand Role.Out (record any_register { regs = record { 0 = 2 } } ∷ []) ∷ operand Role.In (any_register ∷ []) ∷ [])) registers in_eax → ⊥
not_its_letter h =
    let letter = (h.fits 0 (operand Role.Out (record any_register { regs = record { 0 = 2 } } ∷ [])) (record any_register { regs = record { 0 = 2 } }) Kind.Register (record { is_operand = refl; is_alternative = refl; is_kind = refl }) refl).0 in
    omega arith

-- `"=r"(y):"0"(x)`: a tied input is where its output is
not_tied : IsAllowed (interface (operand Role.Out (any_register ∷ []) ∷ operand Role.In (tied_to 0 ∷ []) ∷ [])) registers (placement (Spot.Register Reg.Eax) (Spot.Register Reg.Ebx)) → ⊥
not_tied h = let same : Spot.Register Reg.Ebx ≡ Spot.Register Reg.Eax = h.ties 1 in cc

-- `:"I"(x)`, a number from 0 to 31
abbrev small : AltIface
small = record any_register { regs = no_regs; numbers = Some (pos 0, pos 31) }

out_of_range : IsAllowed (interface (operand Role.In (small ∷ []) ∷ [])) (shape 0 (Kind.Number ∷ [])) (record { spots = replicate 30 (Spot.Number (pos 32)); count = 1 }) → ⊥
out_of_range h =
    let fits = h.fits 0 (operand Role.In (small ∷ [])) small Kind.Number (record { is_operand = refl; is_alternative = refl; is_kind = refl }) refl in
    let above : pos 32 ≤ℤ pos 31 = (fits.within (pos 0, pos 31) refl).1 in
    omega (arith, ints)
