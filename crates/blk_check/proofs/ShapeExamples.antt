-- Instructions that shapes don't agree on.
use Rattle.std.proofs.Common.{◌≡◌, ℕ, List, [], ◌∷◌, map, true, false, Option, None, Some, refl}
use Rattle.asm_core.specs.Reg.{no_regs}
use Rattle.asm_core.specs.Company.{places_of, all_places, same_company}
use Rattle.asm_core.specs.declared.inst.Op.{Op}
use Rattle.asm_core.specs.declared.inst.Width.{Width}
use Rattle.asm_core.specs.declared.inst.Repeat.{Repeat}
use Rattle.asm_core.specs.declared.sym.Sym.{Sym}
use Rattle.asm_core.specs.declared.mark.MarkKind.{MarkKind}
use Rattle.asm_core.specs.declared.shape.Kind.{Kind}
use Rattle.asm_core.specs.declared.shape.Shape.{Shape}
use Rattle.asm_core.specs.declared.interface.Role.{Role}
use Rattle.asm_core.specs.declared.interface.AltIface.{AltIface}
use Rattle.asm_core.specs.declared.interface.OperandIface.{OperandIface}
use Rattle.asm_core.specs.declared.interface.Interface.{Interface}
use Rattle.asm_core.specs.declared.finding.Rule.{Rule}
use Rattle.asm_core.specs.declared.finding.Cell.{Cell}
use Rattle.asm_core.specs.declared.lines.Lines.{Lines}
use Rattle.blk_check.specs.Readable.{first_unread, differing, u1_line, j1_line, shape_findings}

abbrev letters : ℕ → AltIface
letters bits = record { early = false; tied = None; regs = record { 0 = bits }; pair = false; mem = false; numbers = None }

abbrev pair : AltIface
pair = record { early = false; tied = None; regs = no_regs; pair = true; mem = false; numbers = None }

abbrev operand : Role → ℕ → List AltIface → OperandIface
operand role size alts = record { role = role; size = size; pointer = false; known = None; flag = None; alts = alts }

abbrev interface : List OperandIface → Interface
interface operands = record { operands = operands; clobbers = no_regs; cc = true; memory = false }

abbrev registers : ℕ → List Kind → Shape
registers alternative kinds = record { alternative = alternative; kinds = kinds }

abbrev inst : Op → Width → Option Sym
inst op width = Some (record { op = op; width = width; args = []; repeat = Repeat.No; lock = false; place = 0 })

-- one instruction at offset 20 that names these
abbrev one_line : Option Sym → ℕ → ℕ → Lines
one_line i regs operands = record {
  insts = i ∷ [];
  places = 20 ∷ [];
  named = record { regs = record { 0 = regs }; operands = operands } ∷ [];
  left_out = [];
  labels = [];
  targets = [];
}

abbrev alike : Interface
alike = interface (operand Role.In 4 (letters 127 ∷ letters 127 ∷ []) ∷ [])

abbrev both : List Shape
both = registers 0 (Kind.Register ∷ []) ∷ registers 1 (Kind.Register ∷ []) ∷ []

-- a comparison of 16 bits under one shape and of 32 under the other
two_widths : shape_findings alike both (one_line (inst Op.Cmp Width.W) 0 1 ∷ one_line (inst Op.Cmp Width.L) 0 1 ∷ [])
    ≡ record { rule = Rule.U1; line = 1; cell = Cell.Nothing; other = Cell.Nothing } ∷ []
unfolding shape_findings u1_line j1_line differing places_of same_company
two_widths = refl

one_width : shape_findings alike both (one_line (inst Op.Cmp Width.L) 0 1 ∷ one_line (inst Op.Cmp Width.L) 0 1 ∷ []) ≡ []
unfolding shape_findings u1_line j1_line differing places_of same_company
one_width = refl

-- `movl %%eax,%0` with `"=r,r"(y):"a,b"(x),"b,a"(z)`: eax is that of x or that of z
abbrev crossed : Interface
crossed = interface (operand Role.Out 4 (letters 127 ∷ letters 127 ∷ []) ∷ operand Role.In 4 (letters 1 ∷ letters 2 ∷ []) ∷ operand Role.In 4 (letters 2 ∷ letters 1 ∷ []) ∷ [])

abbrev three : List Kind
three = Kind.Register ∷ Kind.Register ∷ Kind.Register ∷ []

names_eax : shape_findings crossed (registers 0 three ∷ registers 1 three ∷ []) (one_line (inst Op.Mov Width.L) 1 1 ∷ one_line (inst Op.Mov Width.L) 1 1 ∷ [])
    ≡ record { rule = Rule.U1; line = 1; cell = Cell.Nothing; other = Cell.Nothing } ∷ []
unfolding shape_findings u1_line j1_line differing places_of same_company
names_eax = refl

-- the same where no instruction names eax
names_ecx : shape_findings crossed (registers 0 three ∷ registers 1 three ∷ []) (one_line (inst Op.Mov Width.L) 4 1 ∷ one_line (inst Op.Mov Width.L) 4 1 ∷ []) ≡ []
unfolding shape_findings u1_line j1_line differing places_of same_company
names_ecx = refl

-- `cltd` uses eax unasked
unasked_eax : u1_line crossed (map (all_places crossed) (registers 0 three ∷ registers 1 three ∷ [])) (one_line (inst Op.Cltd Width.L) 0 0 ∷ one_line (inst Op.Cltd Width.L) 0 0 ∷ []) ≡ Some 1
unfolding u1_line differing places_of same_company
unasked_eax = refl

-- `"=a,d"(y):"A,A"(x)`: the output lies on another half, which is U1 at the end where nothing names it
abbrev halves : Interface
halves = interface (operand Role.Out 4 (letters 1 ∷ letters 8 ∷ []) ∷ operand Role.In 8 (pair ∷ pair ∷ []) ∷ [])

abbrev two : List Kind
two = Kind.Register ∷ Kind.Register ∷ []

at_the_end : u1_line halves (map (all_places halves) (registers 0 two ∷ registers 1 two ∷ [])) (one_line (inst Op.Nop Width.L) 0 0 ∷ one_line (inst Op.Nop Width.L) 0 0 ∷ []) ≡ Some 513
unfolding u1_line differing places_of same_company
at_the_end = refl

-- ---- readings

-- a bit test that is left out under one shape is outside, though the other one reads it
left_out : first_unread (record (one_line None 0 3) { left_out = 0 ∷ [] } ∷ one_line (inst Op.Bt Width.L) 0 3 ∷ []) ≡ Some (record { kind = MarkKind.Instruction; place = 20 })
unfolding first_unread
left_out = refl

no_reading : first_unread (one_line None 0 0 ∷ one_line None 0 0 ∷ []) ≡ Some (record { kind = MarkKind.Instruction; place = 20 })
unfolding first_unread
no_reading = refl

-- what one shape reads and the other doesn't is no mark, but U1
read_once : first_unread (one_line None 0 0 ∷ one_line (inst Op.Mov Width.L) 0 0 ∷ []) ≡ None
unfolding first_unread
read_once = refl

-- a jump to no label
lost : j1_line (record (one_line (inst Op.Jmp Width.L) 0 0) { targets = record { inst = 0; goal = None } ∷ [] } ∷ []) ≡ Some 1
unfolding j1_line
lost = refl
