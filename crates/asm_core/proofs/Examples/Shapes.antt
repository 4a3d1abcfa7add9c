-- Shapes in their order.
use Rattle.std.proofs.Common.{◌≡◌, ℕ, pos, List, [], ◌∷◌, true, false, None, Some, refl}
use Rattle.asm_core.specs.Reg.{all_regs, no_regs}
use Rattle.asm_core.specs.Shape.{shapes_of}
use Rattle.asm_core.specs.Placement.{tie_root}
use Rattle.asm_core.specs.declared.shape.Kind.{Kind}
use Rattle.asm_core.specs.declared.shape.Kind.TheVariants.{Register, Memory, Number}
use Rattle.asm_core.specs.declared.shape.Shape.{Shape}
use Rattle.asm_core.specs.declared.interface.Role.{Role}
use Rattle.asm_core.specs.declared.interface.AltIface.{AltIface}
use Rattle.asm_core.specs.declared.interface.OperandIface.{OperandIface}
use Rattle.asm_core.specs.declared.interface.Interface.{Interface}

-- the letter `r`
abbrev pub any_register : AltIface
any_register = record { early = false; tied = None; regs = all_regs; pair = false; mem = false; numbers = None }

abbrev pub operand : Role → List AltIface → OperandIface
operand role alts = record { role = role; size = 4; pointer = false; known = None; flag = None; alts = alts }

abbrev pub interface : List OperandIface → Interface
interface operands = record { operands = operands; clobbers = no_regs; cc = false; memory = false }

abbrev pub shape : ℕ → List Kind → Shape
shape alternative kinds = record { alternative = alternative; kinds = kinds }

-- the letters `r`, `rm`, `rmI` and `m`, and a tie
abbrev pub r : AltIface
r = any_register

abbrev pub rm : AltIface
rm = record any_register { mem = true }

abbrev pub rmi : AltIface
rmi = record any_register { mem = true; numbers = Some (pos 0, pos 31) }

abbrev pub m : AltIface
m = record any_register { regs = no_regs; mem = true }

abbrev pub tied_to : ℕ → AltIface
tied_to k = record any_register { regs = no_regs; tied = Some k }

-- `"=rm,r"(y):"rm,m"(x)`: by alternative, then the last operand changes fastest
two_alternatives : shapes_of (interface (operand Role.Out (rm ∷ r ∷ []) ∷ operand Role.In (rm ∷ m ∷ []) ∷ []))
    ≡ shape 0 (Register ∷ Register ∷ []) ∷ shape 0 (Register ∷ Memory ∷ []) ∷ shape 0 (Memory ∷ Register ∷ []) ∷ shape 0 (Memory ∷ Memory ∷ []) ∷ shape 1 (Register ∷ Memory ∷ []) ∷ []
two_alternatives = refl

-- `:"rmI"(x)`: register, memory, number
three_kinds : shapes_of (interface (operand Role.In (rmi ∷ []) ∷ [])) ≡ shape 0 (Register ∷ []) ∷ shape 0 (Memory ∷ []) ∷ shape 0 (Number ∷ []) ∷ []
three_kinds = refl

-- `"=rm"(y):"r"(z),"0"(x)`: a tied input is what its output is
tied : shapes_of (interface (operand Role.Out (rm ∷ []) ∷ operand Role.In (r ∷ []) ∷ operand Role.In (tied_to 0 ∷ []) ∷ []))
    ≡ shape 0 (Register ∷ Register ∷ Register ∷ []) ∷ shape 0 (Memory ∷ Register ∷ Memory ∷ []) ∷ []
tied = refl

-- a tie in one alternative alone: `"=r,r"(y):"m,0"(x)`
tied_in_one : shapes_of (interface (operand Role.Out (r ∷ r ∷ []) ∷ operand Role.In (m ∷ tied_to 0 ∷ []) ∷ [])) ≡ shape 0 (Register ∷ Memory ∷ []) ∷ shape 1 (Register ∷ Register ∷ []) ∷ []
tied_in_one = refl

tied_to_its_output : tie_root (interface (operand Role.Out (r ∷ r ∷ []) ∷ operand Role.In (m ∷ tied_to 0 ∷ []) ∷ [])) (shape 1 (Register ∷ Register ∷ [])) 1 ≡ 0
tied_to_its_output = refl

tied_to_none : tie_root (interface (operand Role.Out (r ∷ r ∷ []) ∷ operand Role.In (m ∷ tied_to 0 ∷ []) ∷ [])) (shape 0 (Register ∷ Memory ∷ [])) 1 ≡ 1
tied_to_none = refl

-- an alternative that allows an operand nothing has no shape
nothing_allowed : shapes_of (interface (operand Role.Out (r ∷ record r { regs = no_regs } ∷ []) ∷ [])) ≡ shape 0 (Register ∷ []) ∷ []
nothing_allowed = refl

no_operands : shapes_of (interface []) ≡ shape 0 [] ∷ []
no_operands = refl
