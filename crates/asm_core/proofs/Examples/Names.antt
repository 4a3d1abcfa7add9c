-- What lines name, use and access.
use Rattle.std.proofs.Common.{◌≡◌, pos, [], ◌∷◌, List, false, true, refl}
use Rattle.asm_core.specs.Entries.{reads_of, writes_of, named_of, accesses_of, origins}
use Rattle.asm_core.specs.Rows.{entry_row}
use Rattle.asm_core.specs.declared.reg.Reg.{Reg}
use Rattle.asm_core.specs.declared.reg.Slice.{Slice}
use Rattle.asm_core.specs.declared.flag.Flag.{Flag}
use Rattle.asm_core.specs.declared.inst.Op.{Op}
use Rattle.asm_core.specs.declared.inst.Width.{Width}
use Rattle.asm_core.specs.declared.inst.Repeat.{Repeat}
use Rattle.asm_core.specs.declared.sym.Place.{Place}
use Rattle.asm_core.specs.declared.sym.Arg.{Arg}
use Rattle.asm_core.specs.declared.sym.Sym.{Sym}
use Rattle.asm_core.specs.declared.row.Source.{Source}
use Rattle.asm_core.specs.declared.row.Written.{Written}
use Rattle.asm_core.specs.declared.row.By.{By}

abbrev line : Op → List Arg → Sym
line op args = record { op = op; width = Width.L; args = args; repeat = Repeat.No; lock = false; place = 0 }

abbrev place : Arg
place = Arg.Register (Place.Operand 1) Slice.All

-- movl $5,%1
move : Sym
move = line Op.Mov (Arg.Number (pos 5) ∷ place ∷ [])

move_copies : writes_of (entry_row move) move ≡ record { to = Written.Arg place; first = 0; count = 4; by = By.Copy (Source.Arg (Arg.Number (pos 5))) 0 } ∷ []
unfolding move
move_copies = refl

move_reads : reads_of (entry_row move) move ≡ Source.Arg (Arg.Number (pos 5)) ∷ []
unfolding move origins
move_reads = refl

-- addl %0,%1, where operand 0 is in memory
sum : Sym
sum = line Op.Add (Arg.Memory 0 ∷ place ∷ [])

sum_names : named_of (entry_row sum) sum 0 ≡ Source.Arg (Arg.Memory 0) ∷ Source.Arg place ∷ []
unfolding sum origins
sum_names = refl

sum_loads : accesses_of (entry_row sum) sum ≡ record { to = Arg.Memory 0; bytes = 4; store = false } ∷ []
unfolding sum origins
sum_loads = refl

-- shll %cl,%1: CF names the count, the destination and itself
by_cl : Sym
by_cl = line Op.Shl (Arg.Register (Place.Reg Reg.Ecx) Slice.Low8 ∷ place ∷ [])

by_cl_carry : named_of (entry_row by_cl) by_cl 1 ≡ Source.Arg (Arg.Register (Place.Reg Reg.Ecx) Slice.Low8) ∷ Source.Arg place ∷ Source.Flag Flag.Cf ∷ []
unfolding by_cl origins
by_cl_carry = refl

by_cl_overflow : named_of (entry_row by_cl) by_cl 6 ≡ Source.Arg (Arg.Register (Place.Reg Reg.Ecx) Slice.Low8) ∷ Source.Arg place ∷ Source.Flag Flag.Of ∷ Source.Undefined ∷ []
unfolding by_cl origins
by_cl_overflow = refl

-- shll $1,%1: AF is undefined, and no flag names itself
by_one : Sym
by_one = line Op.Shl (Arg.Number (pos 1) ∷ place ∷ [])

by_one_carry : named_of (entry_row by_one) by_one 1 ≡ Source.Arg (Arg.Number (pos 1)) ∷ Source.Arg place ∷ []
unfolding by_one origins
by_one_carry = refl

by_one_adjust : named_of (entry_row by_one) by_one 3 ≡ Source.Undefined ∷ []
unfolding by_one origins
by_one_adjust = refl

-- shll $32,%1 in memory: no write, a load and a store
by_none : Sym
by_none = line Op.Shl (Arg.Number (pos 32) ∷ Arg.Memory 1 ∷ [])

by_none_writes : writes_of (entry_row by_none) by_none ≡ []
unfolding by_none
by_none_writes = refl

by_none_accesses : accesses_of (entry_row by_none) by_none ≡ record { to = Arg.Memory 1; bytes = 4; store = false } ∷ record { to = Arg.Memory 1; bytes = 4; store = true } ∷ []
unfolding by_none origins
by_none_accesses = refl
