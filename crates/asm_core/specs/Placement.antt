-- Where the compiler may put the operands of a shape.
use Rattle.std.specs.Prelude.{◌≡◌, ◌≢◌, ℕ, ℤ, pos, negsuc, ◌≤ℤ◌, List, [], ◌∷◌, ◌++◌, length, Bool, true, false, IsTrue, Option, None, Some, slice_get, slice_index_or, is_some, if◌then◌else◌}
use Rattle.asm_core.specs.Reg.{IsIn}
use Rattle.asm_core.specs.Lists.{IsMember, AreApart}
use Rattle.asm_core.specs.declared.reg.Reg.{Reg}
use Rattle.asm_core.specs.declared.reg.RegSet.{RegSet}
use Rattle.asm_core.specs.declared.shape.Kind.{Kind}
use Rattle.asm_core.specs.declared.shape.Shape.{Shape}
use Rattle.asm_core.specs.declared.interface.Role.{Role}
use Rattle.asm_core.specs.declared.interface.AltIface.{AltIface}
use Rattle.asm_core.specs.declared.interface.OperandIface.{OperandIface}
use Rattle.asm_core.specs.declared.interface.Interface.{Interface}
use Rattle.asm_core.specs.declared.placement.Base.{Base}
use Rattle.asm_core.specs.declared.placement.Form.{Form}
use Rattle.asm_core.specs.declared.placement.Spot.{Spot}
use Rattle.asm_core.specs.declared.placement.Placement.{Placement}

abbrev pub spot_of : Placement → ℕ → Spot
spot_of p k = slice_index_or p.spots k (Spot.Number (pos 0))

-- the registers that hold a value
abbrev pub value_registers : Spot → List Reg
value_registers (Spot.Register r) = r ∷ []
value_registers Spot.Pair = Reg.Eax ∷ Reg.Edx ∷ []
value_registers (Spot.Memory form) = []
value_registers (Spot.Number n) = []

abbrev base_registers : Option Base → List Reg
base_registers None = []
base_registers (Some Base.Esp) = []
base_registers (Some (Base.Reg r)) = r ∷ []

abbrev index_registers : Option (Reg × ℕ) → List Reg
index_registers None = []
index_registers (Some x) = x.0 ∷ []

-- the registers of an address
abbrev pub form_registers : Form → List Reg
form_registers form = base_registers form.base ++ index_registers form.index

abbrev pub address_registers : Spot → List Reg
address_registers (Spot.Memory form) = form_registers form
address_registers (Spot.Register r) = []
address_registers Spot.Pair = []
address_registers (Spot.Number n) = []

-- no register of the list is in the set
abbrev pub NoneIn : RegSet → List Reg → Type 0
NoneIn s rs = (r : Reg) → IsMember r rs → IsIn s r → ⊥

-- an address that an instruction can have
pub record IsForm (form : Form) : Type 0 where
  pub low : negsuc 2147483647 ≤ℤ form.disp
  pub high : form.disp ≤ℤ pos 4294967295
  pub scale : (x : Reg × ℕ) → form.index ≡ Some x → IsMember x.1 (1 ∷ 2 ∷ 4 ∷ 8 ∷ [])

-- a number in the range, which has to be there, and the known one where there is one
pub record IsNumber (range : Option (ℤ × ℤ)) (known : Option ℤ) (n : ℤ) : Type 0 where
  pub some : IsTrue (is_some range)
  pub within : (x : ℤ × ℤ) → range ≡ Some x → (x.0 ≤ℤ n) × (n ≤ℤ x.1)
  pub is_known : (x : ℤ) → known ≡ Some x → n ≡ x

-- the alternative lets an operand of this kind be here
abbrev pub Fits : Interface → OperandIface → AltIface → Kind → Spot → Type 0
Fits i o alt Kind.Register (Spot.Register r) = IsIn alt.regs r × (IsIn i.clobbers r → ⊥)
Fits i o alt Kind.Register Spot.Pair = IsTrue alt.pair × NoneIn i.clobbers (Reg.Eax ∷ Reg.Edx ∷ [])
Fits i o alt Kind.Memory (Spot.Memory form) = IsForm form × NoneIn i.clobbers (form_registers form)
Fits i o alt Kind.Number (Spot.Number n) = IsNumber alt.numbers o.known n
Fits i o alt kind spot = ⊥

-- operand k, what the shape's alternative allows it, and its kind
pub record HasOperand (i : Interface) (s : Shape) (k : ℕ) (o : OperandIface) (alt : AltIface) (kind : Kind) : Type 0 where
  pub is_operand : slice_get i.operands k ≡ Some o
  pub is_alternative : slice_get o.alts s.alternative ≡ Some alt
  pub is_kind : slice_get s.kinds k ≡ Some kind

-- the output that operand k is tied to in the shape's alternative, else k itself
abbrev pub tie_root : Interface → Shape → ℕ → ℕ
tie_root i s k = root (slice_get i.operands k)
  where
    of_alternative : Option AltIface → ℕ
    of_alternative None = k
    of_alternative (Some alt) = elim alt.tied [ None ↦ k | Some output ↦ output ]

    root : Option OperandIface → ℕ
    root None = k
    root (Some o) = of_alternative (slice_get o.alts s.alternative)

abbrev pub is_output : Role → Bool
is_output Role.Out = true
is_output Role.InOut = true
is_output Role.In = false

abbrev pub is_input : Role → Bool
is_input Role.Out = false
is_input Role.InOut = true
is_input Role.In = true

-- The six rules. Nothing else is forbidden: an output may share a register with an input that isn't tied to it.
pub record IsAllowed (i : Interface) (s : Shape) (p : Placement) : Type 0 where
  pub count : p.count ≡ length i.operands
  pub fits : (k : ℕ) (o : OperandIface) (alt : AltIface) (kind : Kind) → HasOperand i s k o alt kind → alt.tied ≡ None → Fits i o alt kind (spot_of p k)
  pub ties : (k : ℕ) → spot_of p k ≡ spot_of p (tie_root i s k)
  pub outputs_apart : (k j : ℕ) (o q : OperandIface) → slice_get i.operands k ≡ Some o → slice_get i.operands j ≡ Some q → IsTrue (is_output o.role) → IsTrue (is_output q.role) → k ≢ j
      → AreApart (value_registers (spot_of p k)) (value_registers (spot_of p j))
  pub early_apart : (k j : ℕ) (o q : OperandIface) (alt : AltIface) (kind : Kind) → HasOperand i s k o alt kind → slice_get i.operands j ≡ Some q → IsTrue alt.early → tie_root i s j ≢ k
      → AreApart (value_registers (spot_of p k)) (value_registers (spot_of p j) ++ address_registers (spot_of p j))

-- the registers that an operand needs to hold what they hold at the entry
abbrev pub input_registers : OperandIface → Spot → List Reg
input_registers o spot = (if is_input o.role then value_registers spot else []) ++ address_registers spot

-- allowed, and no register serves two inputs that are not tied to one another
pub record IsRoomy (i : Interface) (s : Shape) (p : Placement) : Type 0 where
  pub allowed : IsAllowed i s p
  pub inputs_apart : (k j : ℕ) (o q : OperandIface) → slice_get i.operands k ≡ Some o → slice_get i.operands j ≡ Some q → tie_root i s k ≢ tie_root i s j
      → AreApart (input_registers o (spot_of p k)) (input_registers q (spot_of p j))
