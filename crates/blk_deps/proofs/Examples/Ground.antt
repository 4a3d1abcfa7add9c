-- Where operands are under a shape, what their bytes are, and which memory isn't seen.
use Rattle.std.proofs.Common.{◌≡◌, ℕ, pos, List, [], ◌∷◌, true, false, None, Some, refl}
use Rattle.asm_core.specs.Reg.{no_regs}
use Rattle.asm_core.specs.Company.{places_of}
use Rattle.asm_core.specs.declared.cond.Cond.{Cond}
use Rattle.asm_core.specs.declared.shape.Kind.{Kind}
use Rattle.asm_core.specs.declared.shape.Kind.TheVariants.{Register, Memory, Number}
use Rattle.asm_core.specs.declared.shape.Shape.{Shape}
use Rattle.asm_core.specs.declared.company.Held.{Held}
use Rattle.asm_core.specs.declared.finding.Cell.{Cell}
use Rattle.asm_core.specs.declared.interface.Role.{Role}
use Rattle.asm_core.specs.declared.interface.AltIface.{AltIface}
use Rattle.asm_core.specs.declared.interface.OperandIface.{OperandIface}
use Rattle.asm_core.specs.declared.interface.Interface.{Interface}
use Rattle.blk_deps.specs.Operands.{held_in, holders, is_place, is_lone, is_input_place, name_of, is_output_byte, is_byte_above, is_changing, is_unseen}
use Rattle.blk_deps.specs.Rules.{is_kept}
use Rattle.blk_deps.specs.Ground.{is_result_byte, is_result_flag}

-- registers alone, as the letters that name them: bit n is the n-th register
abbrev letter : ℕ → AltIface
letter regs = record { early = false; tied = None; regs = record { 0 = regs }; pair = false; mem = false; numbers = None }

abbrev a : AltIface
a = letter 1

abbrev b : AltIface
b = letter 2

abbrev q : AltIface
q = letter 15

abbrev r : AltIface
r = letter 127

abbrev m : AltIface
m = record (letter 0) { mem = true }

abbrev pair : AltIface
pair = record (letter 0) { pair = true }

abbrev tied_to : ℕ → AltIface
tied_to k = record (letter 0) { tied = Some k }

abbrev operand : Role → ℕ → AltIface → OperandIface
operand role size alt = record { role = role; size = size; pointer = false; known = None; flag = None; alts = alt ∷ [] }

abbrev interface : List OperandIface → Interface
interface operands = record { operands = operands; clobbers = no_regs; cc = false; memory = false }

abbrev shape : List Kind → Shape
shape kinds = record { alternative = 0; kinds = kinds }

abbrev one : Shape
one = shape (Register ∷ [])

abbrev two : Shape
two = shape (Register ∷ Register ∷ [])

abbrev in_memory : Shape
in_memory = shape (Memory ∷ [])

-- ---- `"=a"(y):"0"(x)`, y of four bytes and x of two: both in eax

abbrev tied : Interface
tied = interface (operand Role.Out 4 a ∷ operand Role.In 2 (tied_to 0) ∷ [])

both_in_eax : holders tied two 0 ≡ 0 ∷ 1 ∷ []
unfolding places_of
both_in_eax = refl

named_by_output : name_of tied two 0 ≡ Cell.Operand 0
unfolding places_of
named_by_output = refl

no_place_of_its_own : is_place tied two 7 ≡ false
unfolding places_of
no_place_of_its_own = refl

-- of the input in al and ah, and of the output alone above
input_is_low : is_output_byte tied two 1 ≡ false
unfolding places_of
input_is_low = refl

output_is_high : is_output_byte tied two 2 ≡ true
unfolding places_of
output_is_high = refl

all_used : is_byte_above tied two 3 ≡ false
unfolding places_of
all_used = refl

ebx_is_lone : is_lone tied two 1 ≡ true
unfolding places_of
ebx_is_lone = refl

-- ---- `"=A"(y)` of eight bytes

abbrev wide : Interface
wide = interface (operand Role.Out 8 pair ∷ [])

high_in_edx : held_in wide one 3 0 ≡ Held.High
unfolding places_of
high_in_edx = refl

edx_is_named : name_of wide one 3 ≡ Cell.Operand 0
unfolding places_of
edx_is_named = refl

-- the highest byte of edx, and one of ecx
edx_is_result : is_result_byte wide one 15 ≡ true
unfolding places_of
edx_is_result = refl

ecx_is_no_result : is_result_byte wide one 8 ≡ false
unfolding places_of
ecx_is_no_result = refl

-- ---- `"=q"(y)` of one byte: a register of its own

abbrev byte : Interface
byte = interface (operand Role.Out 1 q ∷ [])

has_place : is_place byte one 7 ≡ true
unfolding places_of
has_place = refl

low_byte : is_output_byte byte one 28 ≡ true
unfolding places_of
low_byte = refl

above_it : is_byte_above byte one 29 ≡ true
unfolding places_of
above_it = refl

-- ---- `"=r"(y):"r"(x)`

abbrev apart : Interface
apart = interface (operand Role.Out 4 r ∷ operand Role.In 4 r ∷ [])

output_changes : is_input_place apart two 7 ≡ false
unfolding places_of
output_changes = refl

input_stays : is_input_place apart two 8 ≡ true
unfolding places_of
input_stays = refl

input_is_named : name_of apart two 8 ≡ Cell.Operand 1
unfolding places_of
input_is_named = refl

-- ---- `:"b"(x)`, and eax is clobbered

abbrev input : Interface
input = record (interface (operand Role.In 4 b ∷ [])) { clobbers = record { 0 = 1 } }

ebx_is_input : is_input_place input one 1 ≡ true
unfolding places_of
ebx_is_input = refl

ebx_is_kept : is_kept input one 1 ≡ true
unfolding places_of
ebx_is_kept = refl

eax_is_free : is_kept input one 0 ≡ false
unfolding places_of
eax_is_free = refl

ecx_is_kept : is_kept input one 2 ≡ true
unfolding places_of
ecx_is_kept = refl

ebx_is_named : name_of input one 1 ≡ Cell.Operand 0
unfolding places_of
ebx_is_named = refl

-- ---- memory

-- `"=m"(y)`
abbrev written : Interface
written = interface (operand Role.Out 4 m ∷ [])

written_is_unseen : is_unseen written (in_memory ∷ []) in_memory 0 ≡ true
unfolding places_of
written_is_unseen = refl

-- all memory is declared
declared_is_seen : is_unseen (record written { memory = true }) (in_memory ∷ []) in_memory 0 ≡ false
unfolding places_of
declared_is_seen = refl

-- `"=rm"(y)`: memory in one live shape, and a register in the other
register_or_memory : is_changing (one ∷ in_memory ∷ []) 0 ≡ true
register_or_memory = refl

changing_is_unseen : is_unseen (record written { memory = true }) (one ∷ in_memory ∷ []) in_memory 0 ≡ true
unfolding places_of
changing_is_unseen = refl

-- `"=m"(y):"0"(x)`: the input is seen in y's place, and has no address of its own
abbrev read_too : Interface
read_too = interface (operand Role.Out 4 m ∷ operand Role.In 4 (tied_to 0) ∷ [])

tied_is_seen : is_unseen read_too (shape (Memory ∷ Memory ∷ []) ∷ []) (shape (Memory ∷ Memory ∷ [])) 0 ≡ false
unfolding places_of
tied_is_seen = refl

one_address : is_place read_too (shape (Memory ∷ Memory ∷ [])) 8 ≡ false
unfolding places_of
one_address = refl

-- ---- `"=@ccbe"(y)`: the carry and the zero flag, and not the sign flag

abbrev flag_output : OperandIface
flag_output = record {
  role = Role.Out;
  size = 1;
  pointer = false;
  known = Some (pos 0);
  flag = Some Cond.Be;
  alts = record (letter 0) { numbers = Some (pos 0, pos 0) } ∷ [];
}

abbrev flag : Interface
flag = interface (flag_output ∷ [])

carry_is_result : is_result_flag flag 0 ≡ true
carry_is_result = refl

zero_is_result : is_result_flag flag 3 ≡ true
zero_is_result = refl

sign_is_no_result : is_result_flag flag 4 ≡ false
sign_is_no_result = refl

-- it has no place
no_place : is_place flag (shape (Number ∷ [])) 7 ≡ false
unfolding places_of
no_place = refl
