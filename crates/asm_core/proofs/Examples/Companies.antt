-- Where operands are, and companies that differ between two shapes.
use Rattle.std.proofs.Common.{◌≡◌, List, [], ◌∷◌, true, false, refl}
use Rattle.asm_core.specs.Reg.{no_regs}
use Rattle.asm_core.specs.Company.{places_of, all_places, company_of, same_company, same_register_company, same_operand_company}
use Rattle.asm_core.proofs.Examples.Shapes.{interface, operand, shape, r, m, tied_to}
use Rattle.asm_core.specs.declared.reg.Reg.{Reg}
use Rattle.asm_core.specs.declared.sym.Place.{Place}
use Rattle.asm_core.specs.declared.shape.Kind.{Kind}
use Rattle.asm_core.specs.declared.shape.Kind.TheVariants.{Register, Memory}
use Rattle.asm_core.specs.declared.interface.Role.{Role}
use Rattle.asm_core.specs.declared.interface.AltIface.{AltIface}
use Rattle.asm_core.specs.declared.interface.Interface.{Interface}
use Rattle.asm_core.specs.declared.company.Places.{Places}
use Rattle.asm_core.specs.declared.company.Held.{Held}

-- the letters `a`, `b` and `d`, and `A` of 8 bytes
abbrev a : AltIface
a = record r { regs = record { 0 = 1 } }

abbrev b : AltIface
b = record r { regs = record { 0 = 2 } }

abbrev d : AltIface
d = record r { regs = record { 0 = 8 } }

abbrev pair : AltIface
pair = record r { regs = no_regs; pair = true }

abbrev registers : List Kind
registers = Register ∷ Register ∷ Register ∷ []

-- `"=r,r"(y):"a,b"(x),"b,a"(z)`: eax is that of x in one alternative and that of z in the other one
abbrev crossed : Interface
crossed = interface (operand Role.Out (r ∷ r ∷ []) ∷ operand Role.In (a ∷ b ∷ []) ∷ operand Role.In (b ∷ a ∷ []) ∷ [])

crossed_places : all_places crossed (shape 1 registers) ≡ Places.One (Place.Operand 0) ∷ Places.One (Place.Reg Reg.Ebx) ∷ Places.One (Place.Reg Reg.Eax) ∷ []
unfolding places_of
crossed_places = refl

crossed_eax : same_register_company crossed (shape 0 registers) (shape 1 registers) Reg.Eax ≡ false
unfolding places_of same_company
crossed_eax = refl

crossed_ecx : same_register_company crossed (shape 0 registers) (shape 1 registers) Reg.Ecx ≡ true
unfolding places_of same_company
crossed_ecx = refl

-- x is alone in its register under both
crossed_input : same_operand_company crossed (shape 0 registers) (shape 1 registers) 1 ≡ true
unfolding places_of same_company
crossed_input = refl

-- `"=a,d"(y):"A,A"(x)`: y lies on the low half in one alternative and on the high half in the other one
abbrev halves : Interface
halves = interface (operand Role.Out (a ∷ d ∷ []) ∷ operand Role.In (pair ∷ pair ∷ []) ∷ [])

abbrev both : List Kind
both = Register ∷ Register ∷ []

low_half : company_of (Place.Reg Reg.Eax) (all_places halves (shape 0 both)) ≡ Held.All ∷ Held.Low ∷ []
unfolding places_of
low_half = refl

high_half : company_of (Place.Reg Reg.Edx) (all_places halves (shape 1 both)) ≡ Held.All ∷ Held.High ∷ []
unfolding places_of
high_half = refl

its_halves : same_operand_company halves (shape 0 both) (shape 1 both) 0 ≡ false
unfolding places_of same_company
its_halves = refl

-- `"=m,a"(y):"m,r"(x)`: a register and memory have one company where nobody else is there
abbrev memory_or_register : Interface
memory_or_register = interface (operand Role.Out (m ∷ a ∷ []) ∷ operand Role.In (m ∷ r ∷ []) ∷ [])

alone_in_both : same_operand_company memory_or_register (shape 0 (Memory ∷ Memory ∷ [])) (shape 1 both) 0 ≡ true
unfolding places_of same_company
alone_in_both = refl

-- but the pair and memory have not
abbrev pair_or_memory : Interface
pair_or_memory = interface (operand Role.In (m ∷ pair ∷ []) ∷ [])

pair_apart : same_operand_company pair_or_memory (shape 0 (Memory ∷ [])) (shape 1 (Register ∷ [])) 0 ≡ false
unfolding places_of same_company
pair_apart = refl

-- `"=r,r"(y):"0,r"(x)`: tied in one alternative alone
abbrev tied_once : Interface
tied_once = interface (operand Role.Out (r ∷ r ∷ []) ∷ operand Role.In (tied_to 0 ∷ r ∷ []) ∷ [])

tie_apart : same_operand_company tied_once (shape 0 both) (shape 1 both) 0 ≡ false
unfolding places_of same_company
tie_apart = refl

-- `"=am"(y)` in memory isn't in eax
abbrev eax_or_memory : Interface
eax_or_memory = interface (operand Role.Out (record a { mem = true } ∷ []) ∷ [])

in_memory : all_places eax_or_memory (shape 0 (Memory ∷ [])) ≡ Places.One (Place.Operand 0) ∷ []
unfolding places_of
in_memory = refl
