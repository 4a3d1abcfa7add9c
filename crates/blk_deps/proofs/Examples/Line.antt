-- What single instructions do to values. The cells of eax are 0 to 3, of ecx 8 to 11, of edx 12 to 15; operand 1's
-- address is place 8,
-- whose cells are 32 to 35; CF to OF are 148 to 153; the first pushed word is 154 to 157.
use Rattle.std.proofs.Common.{◌≡◌, [], ◌∷◌, List, false, true, None, map, refl}
use Rattle.asm_core.specs.Entries.{origins}
use Rattle.asm_core.specs.declared.reg.Reg.{Reg}
use Rattle.asm_core.specs.declared.reg.Slice.{Slice}
use Rattle.asm_core.specs.declared.inst.Op.{Op}
use Rattle.asm_core.specs.declared.inst.Width.{Width}
use Rattle.asm_core.specs.declared.inst.Repeat.{Repeat}
use Rattle.asm_core.specs.declared.sym.Place.{Place}
use Rattle.asm_core.specs.declared.sym.Arg.{Arg}
use Rattle.asm_core.specs.declared.sym.Sym.{Sym}
use Rattle.asm_core.specs.declared.shape.Kind.{Kind}
use Rattle.asm_core.specs.declared.shape.Shape.{Shape}
use Rattle.asm_core.specs.declared.interface.Role.{Role}
use Rattle.asm_core.specs.declared.interface.AltIface.{AltIface}
use Rattle.asm_core.specs.declared.interface.OperandIface.{OperandIface}
use Rattle.asm_core.specs.declared.interface.Interface.{Interface}
use Rattle.blk_deps.specs.Line.{line_reads, line_puts, used_hands}
use Rattle.blk_deps.specs.declared.step.Name.{Name}
use Rattle.blk_deps.specs.declared.step.Read.{Read}
use Rattle.blk_deps.specs.declared.step.Put.{Put}

-- two outputs of four bytes: operand 0 in eax, operand 1 in memory
abbrev in_eax : AltIface
in_eax = record { early = false; tied = None; regs = record { 0 = 1 }; pair = false; mem = false; numbers = None }

abbrev in_memory : AltIface
in_memory = record { early = false; tied = None; regs = record { 0 = 0 }; pair = false; mem = true; numbers = None }

abbrev output : AltIface → OperandIface
output alt = record { role = Role.Out; size = 4; pointer = false; known = None; flag = None; alts = alt ∷ [] }

abbrev pub interface : Interface
interface = record { operands = output in_eax ∷ output in_memory ∷ []; clobbers = record { 0 = 0 }; cc = false; memory = false }

abbrev pub shape : Shape
shape = record { alternative = 0; kinds = Kind.Register ∷ Kind.Memory ∷ [] }

abbrev pub line : Op → Width → List Arg → Sym
line op w args = record { op = op; width = w; args = args; repeat = Repeat.No; lock = false; place = 0 }

abbrev pub eax : Arg
eax = Arg.Register (Place.Reg Reg.Eax) Slice.All

abbrev pub edx : Arg
edx = Arg.Register (Place.Reg Reg.Edx) Slice.All

abbrev nothing : Read
nothing = Read.Compute []

-- of the cells of both registers
abbrev of_both : Read
of_both = Read.Compute (map Name.Cell (0 ∷ 1 ∷ 2 ∷ 3 ∷ 12 ∷ 13 ∷ 14 ∷ 15 ∷ []))

-- movl %eax,%edx: the four bytes are copied
movl_reads : line_reads interface shape 0 (line Op.Mov Width.L (eax ∷ edx ∷ [])) ≡ Read.Copy 0 ∷ Read.Copy 1
    ∷ Read.Copy 2 ∷ Read.Copy 3 ∷ nothing ∷ nothing ∷ []
unfolding origins
movl_reads = refl

movl_puts : line_puts interface shape 0 (line Op.Mov Width.L (eax ∷ edx ∷ [])) ≡ Put.Place 12 0 ∷ Put.Place 13 1
    ∷ Put.Place 14 2 ∷ Put.Place 15 3 ∷ []
unfolding origins
movl_puts = refl

-- movl %eax,%1: operand 1 is stored to, which uses the four hands, and its address
store_reads : line_reads interface shape 0 (line Op.Mov Width.L (eax ∷ Arg.Memory 1 ∷ []))
    ≡ Read.Copy 0 ∷ Read.Copy 1 ∷ Read.Copy 2 ∷ Read.Copy 3 ∷ nothing
    ∷ Read.Compute (map Name.Cell (32 ∷ 33 ∷ 34 ∷ 35 ∷ [])) ∷ []
unfolding origins
store_reads = refl

store_puts : line_puts interface shape 0 (line Op.Mov Width.L (eax ∷ Arg.Memory 1 ∷ [])) ≡ Put.Store 1 0 4 ∷ []
unfolding origins
store_puts = refl

store_uses : used_hands (line Op.Mov Width.L (eax ∷ Arg.Memory 1 ∷ [])) ≡ 0 ∷ 1 ∷ 2 ∷ 3 ∷ 4 ∷ 5 ∷ []
unfolding origins
store_uses = refl

-- movl %1,%eax: the four bytes are computed of the four that are loaded, since memory has no cells
load_reads : line_reads interface shape 0 (line Op.Mov Width.L (Arg.Memory 1 ∷ eax ∷ []))
    ≡ Read.Compute (Name.Load 1 4 ∷ []) ∷ Read.Compute (Name.Load 1 4 ∷ []) ∷ Read.Compute (Name.Load 1 4 ∷ [])
    ∷ Read.Compute (Name.Load 1 4 ∷ [])
    ∷ nothing ∷ Read.Compute (map Name.Cell (32 ∷ 33 ∷ 34 ∷ 35 ∷ [])) ∷ []
unfolding origins
load_reads = refl

-- addl %eax,%edx: the sum and six flags are computed of both
addl_reads : line_reads interface shape 0 (line Op.Add Width.L (eax ∷ edx ∷ []))
    ≡ of_both ∷ of_both ∷ of_both ∷ of_both ∷ of_both ∷ of_both ∷ of_both ∷ of_both ∷ of_both ∷ of_both ∷ nothing
    ∷ nothing ∷ []
unfolding origins
addl_reads = refl

addl_puts : line_puts interface shape 0 (line Op.Add Width.L (eax ∷ edx ∷ []))
    ≡ Put.Place 12 0 ∷ Put.Place 13 1 ∷ Put.Place 14 2 ∷ Put.Place 15 3
    ∷ Put.Plain 148 4 ∷ Put.Plain 149 5 ∷ Put.Plain 150 6 ∷ Put.Plain 151 7 ∷ Put.Plain 152 8 ∷ Put.Plain 153 9 ∷ []
unfolding origins
addl_puts = refl

-- xchgl %eax,%edx: both are read before either is written
xchgl_reads : line_reads interface shape 0 (line Op.Xchg Width.L (eax ∷ edx ∷ []))
    ≡ Read.Copy 12 ∷ Read.Copy 13 ∷ Read.Copy 14 ∷ Read.Copy 15 ∷ Read.Copy 0 ∷ Read.Copy 1 ∷ Read.Copy 2 ∷ Read.Copy 3
    ∷ nothing ∷ nothing ∷ []
unfolding origins
xchgl_reads = refl

xchgl_puts : line_puts interface shape 0 (line Op.Xchg Width.L (eax ∷ edx ∷ []))
    ≡ Put.Place 0 0 ∷ Put.Place 1 1 ∷ Put.Place 2 2 ∷ Put.Place 3 3 ∷ Put.Place 12 4 ∷ Put.Place 13 5 ∷ Put.Place 14 6
    ∷ Put.Place 15 7 ∷ []
unfolding origins
xchgl_puts = refl

-- pushl %eax where nothing is pushed
pushl_puts : line_puts interface shape 0 (line Op.Push Width.L (eax ∷ [])) ≡ Put.Plain 154 0 ∷ Put.Plain 155 1
    ∷ Put.Plain 156 2 ∷ Put.Plain 157 3 ∷ []
unfolding origins
pushl_puts = refl

-- popl %edx where one word is pushed
popl_reads : line_reads interface shape 1 (line Op.Pop Width.L (edx ∷ [])) ≡ Read.Copy 154 ∷ Read.Copy 155
    ∷ Read.Copy 156 ∷ Read.Copy 157 ∷ nothing ∷ nothing ∷ []
unfolding origins
popl_reads = refl

popl_puts : line_puts interface shape 1 (line Op.Pop Width.L (edx ∷ [])) ≡ Put.Place 12 0 ∷ Put.Place 13 1
    ∷ Put.Place 14 2 ∷ Put.Place 15 3 ∷ []
unfolding origins
popl_puts = refl

-- std sets the direction flag, which is no cell
std_puts : line_puts interface shape 0 (line Op.Std Width.L []) ≡ Put.Direction true ∷ []
unfolding origins
std_puts = refl

-- cpuid: four registers are computed of eax, of ecx and of what lies outside
cpuid_puts : line_puts interface shape 0 (line Op.Cpuid Width.L [])
    ≡ Put.Place 0 0 ∷ Put.Place 1 1 ∷ Put.Place 2 2 ∷ Put.Place 3 3 ∷ Put.Place 4 4 ∷ Put.Place 5 5 ∷ Put.Place 6 6
    ∷ Put.Place 7 7
    ∷ Put.Place 8 8 ∷ Put.Place 9 9 ∷ Put.Place 10 10 ∷ Put.Place 11 11 ∷ Put.Place 12 12 ∷ Put.Place 13 13
    ∷ Put.Place 14 14 ∷ Put.Place 15 15 ∷ []
unfolding origins
cpuid_puts = refl
