-- Lines, and what is told of one: its entries, all together.
use Rattle.std.proofs.Common.{ℕ, ◌+◌, pos, List, [], ◌∷◌, false, true, None, Some}
use Rattle.asm_core.specs.Entries.{reads_of, writes_of, named_of, uses_of, accesses_of}
use Rattle.asm_core.specs.Rows.{entry_row}
use Rattle.asm_core.specs.declared.reg.Reg.{Reg}
use Rattle.asm_core.specs.declared.reg.Slice.{Slice}
use Rattle.asm_core.specs.declared.flag.Flag.{Flag}
use Rattle.asm_core.specs.declared.flag.Flag.TheVariants.{Cf, Pf, Af, Zf, Sf, Of}
use Rattle.asm_core.specs.declared.inst.Op.{Op}
use Rattle.asm_core.specs.declared.inst.Width.{Width}
use Rattle.asm_core.specs.declared.inst.Repeat.{Repeat}
use Rattle.asm_core.specs.declared.sym.Place.{Place}
use Rattle.asm_core.specs.declared.sym.Disp.{Disp}
use Rattle.asm_core.specs.declared.sym.Arg.{Arg}
use Rattle.asm_core.specs.declared.sym.Sym.{Sym}
use Rattle.asm_core.specs.declared.row.Source.{Source}
use Rattle.asm_core.specs.declared.row.Written.{Written}
use Rattle.asm_core.specs.declared.row.By.{By}
use Rattle.asm_core.specs.declared.row.Write.{Write}
use Rattle.asm_core.specs.declared.row.Access.{Access}

abbrev pub line : Op → Width → List Arg → Sym
line op w args = record { op = op; width = w; args = args; repeat = Repeat.No; lock = false; place = 0 }

abbrev pub repeated : Repeat → Sym → Sym
repeated repeat s = record s { repeat = repeat }

-- ---- what is told

pub record Told : Type 0 where
  pub reads : List Source
  pub writes : List (Write × List Source)
  pub uses : List Source
  pub accesses : List Access

-- each write from the k-th on with what it names
abbrev with_names : Sym → ℕ → List Write → List (Write × List Source)
with_names s k [] = []
with_names s k (w ∷ ws) = (w, named_of (entry_row s) s k) ∷ with_names s (k + 1) ws

abbrev pub told : Sym → Told
told s = record {
  reads = reads_of (entry_row s) s;
  writes = with_names s 0 (writes_of (entry_row s) s);
  uses = uses_of (entry_row s) s;
  accesses = accesses_of (entry_row s) s;
}

-- ---- operands and sources

abbrev pub of : Arg → Source
of a = Source.Arg a

-- a register's bytes
abbrev pub in_register : Reg → Slice → Arg
in_register r slice = Arg.Register (Place.Reg r) slice

-- operands 0 and 1 of the statement, in registers of their own or in memory
abbrev pub zeroth : Slice → Arg
zeroth slice = Arg.Register (Place.Operand 0) slice

abbrev pub first : Slice → Arg
first slice = Arg.Register (Place.Operand 1) slice

abbrev pub memory : Arg
memory = Arg.Memory 1

abbrev pub number : ℕ → Arg
number n = Arg.Number (pos n)

-- the element at the address in a register
abbrev pub element : Reg → Arg
element r = Arg.Address (Disp.Number (pos 0)) (Some (Place.Reg r)) None

-- ---- entries

-- n bytes from one on, which are named
abbrev pub bytes : Arg → ℕ → ℕ → List Source → Write × List Source
bytes a from n names = (record { to = Written.Arg a; first = from; count = n; by = By.Named }, names)

abbrev pub flag : Flag → List Source → Write × List Source
flag f names = (record { to = Written.Flag f; first = 0; count = 1; by = By.Named }, names)

-- n bytes from one on, copied from another's bytes from one on
abbrev pub copy : Arg → ℕ → ℕ → Source → ℕ → Write × List Source
copy a from n source at = (record { to = Written.Arg a; first = from; count = n; by = By.Copy source at }, [])

abbrev pub load : Arg → ℕ → Access
load a n = record { to = a; bytes = n; store = false }

abbrev pub undefined : List Source
undefined = Source.Undefined ∷ []

abbrev pub store : Arg → ℕ → Access
store a n = record { to = a; bytes = n; store = true }

-- all six flags with the same names
abbrev pub six_flags : List Source → List (Write × List Source) → List (Write × List Source)
six_flags names rest =
    flag Cf names ∷ flag Pf names ∷ flag Af names ∷ flag Zf names ∷ flag Sf names ∷ flag Of names ∷ rest

-- PF, AF, ZF and SF undefined
abbrev pub four_undefined : List (Write × List Source) → List (Write × List Source)
four_undefined rest = flag Pf undefined ∷ flag Af undefined ∷ flag Zf undefined ∷ flag Sf undefined ∷ rest
