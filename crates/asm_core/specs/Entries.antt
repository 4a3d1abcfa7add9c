-- What a line reads, writes, names and uses, and the accesses it makes, whatever the state: from the micro-operations of its
-- row. What is known before any state, as a count that is a number, is computed; of a choice whose test is known the chosen
-- branch alone counts.
use Rattle.std.specs.Prelude.{ℕ, ◌+◌, ◌*◌, ◌/◌, ◌^◌, ◌==◌, ◌||◌, not, pos, List, [], ◌∷◌, ◌++◌, map, filter, Bool, true, false, Option, None, Some, slice_get, slice_index_or, min, if◌then◌else◌, bit_or}
use Rattle.std.specs.List.{filter_map}
use Rattle.std.specs.Int.{bit_at}
use Rattle.asm_core.specs.Reg.{reg_number}
use Rattle.asm_core.specs.Flag.{flag_number}
use Rattle.asm_core.specs.Function.{bits_of, value_of}
use Rattle.asm_core.specs.Memory.{modulo}
use Rattle.asm_core.specs.MicroOps.{count_of, first_of, sized}
use Rattle.asm_core.specs.declared.reg.Reg.{Reg}
use Rattle.asm_core.specs.declared.reg.Reg.TheVariants.{Eax, Ebx, Ecx, Edx, Esi, Edi, Ebp}
use Rattle.asm_core.specs.declared.reg.Slice.{Slice}
use Rattle.asm_core.specs.declared.flag.Flag.TheVariants.{Cf, Pf, Af, Zf, Sf, Of, Df}
use Rattle.asm_core.specs.declared.inst.Width.{Width}
use Rattle.asm_core.specs.declared.sym.Place.{Place}
use Rattle.asm_core.specs.declared.sym.Disp.{Disp}
use Rattle.asm_core.specs.declared.sym.Arg.{Arg}
use Rattle.asm_core.specs.declared.sym.Sym.{Sym}
use Rattle.asm_core.specs.declared.micro_op.Bytes.{Bytes}
use Rattle.asm_core.specs.declared.micro_op.Site.{Site}
use Rattle.asm_core.specs.declared.micro_op.Input.{Input}
use Rattle.asm_core.specs.declared.micro_op.Target.{Target}
use Rattle.asm_core.specs.declared.micro_op.Function.{Function}
use Rattle.asm_core.specs.declared.micro_op.MicroOp.{MicroOp}
use Rattle.asm_core.specs.declared.micro_op.Origin.{Origin}
use Rattle.asm_core.specs.declared.micro_op.Fact.{Fact}
use Rattle.asm_core.specs.declared.row.Source.{Source}
use Rattle.asm_core.specs.declared.row.Written.{Written}
use Rattle.asm_core.specs.declared.row.By.{By}
use Rattle.asm_core.specs.declared.row.Write.{Write}
use Rattle.asm_core.specs.declared.row.Access.{Access}

-- ---- what a row can name, in the order of sources

abbrev pub slice_number : Slice → ℕ
slice_number Slice.Low8 = 0
slice_number Slice.High8 = 1
slice_number Slice.Low16 = 2
slice_number Slice.All = 3

-- the place of an origin in their order
abbrev pub origin_rank : Origin → ℕ
origin_rank (Origin.Argument k) = 2 * min k 2
origin_rank (Origin.Address k) = 2 * min k 2 + 1
origin_rank (Origin.Pointed r) = 6 + reg_number r
origin_rank (Origin.Register r slice) = 13 + 4 * reg_number r + slice_number slice
origin_rank (Origin.Flag f) = 41 + flag_number f
origin_rank Origin.Top = 48
origin_rank Origin.Undefined = 49
origin_rank Origin.Outside = 50

-- the name of these bytes of a register, the least one that has them all
abbrev pub slice_with : Bytes → Slice
slice_with Bytes.Byte0 = Slice.Low8
slice_with Bytes.Byte1 = Slice.High8
slice_with Bytes.Low16 = Slice.Low16
slice_with bytes = Slice.All

abbrev pub site_origin : Width → Site → Origin
site_origin w (Site.Argument k bytes) = Origin.Argument k
site_origin w (Site.Register r bytes) = Origin.Register r (slice_with (sized w bytes))
site_origin w (Site.Pointed r) = Origin.Pointed r
site_origin w (Site.Flag f) = Origin.Flag f

-- where an input comes from that is no value of the row and no number
abbrev pub input_origin : Width → Input → Option Origin
input_origin w (Input.Read site) = Some (site_origin w site)
input_origin w (Input.Kept site) = Some (site_origin w site)
input_origin w (Input.Address k) = Some (Origin.Address k)
input_origin w Input.Top = Some Origin.Top
input_origin w (Input.Undefined n) = Some Origin.Undefined
input_origin w (Input.Outside k) = Some Origin.Outside
input_origin w (Input.Earlier k) = None
input_origin w (Input.Number n) = None

abbrev slices_of : Reg → List Origin
slices_of r = Origin.Register r Slice.Low8 ∷ Origin.Register r Slice.High8 ∷ Origin.Register r Slice.Low16 ∷ Origin.Register r Slice.All ∷ []

-- all origins of a line, in their order
unfoldable pub origins : List Origin
origins =
    Origin.Argument 0 ∷ Origin.Address 0 ∷ Origin.Argument 1 ∷ Origin.Address 1 ∷ Origin.Argument 2 ∷ Origin.Address 2
    ∷ Origin.Pointed Eax ∷ Origin.Pointed Ebx ∷ Origin.Pointed Ecx ∷ Origin.Pointed Edx ∷ Origin.Pointed Esi ∷ Origin.Pointed Edi ∷ Origin.Pointed Ebp
    ∷ slices_of Eax ++ slices_of Ebx ++ slices_of Ecx ++ slices_of Edx ++ slices_of Esi ++ slices_of Edi ++ slices_of Ebp
    ++ Origin.Flag Cf ∷ Origin.Flag Pf ∷ Origin.Flag Af ∷ Origin.Flag Zf ∷ Origin.Flag Sf ∷ Origin.Flag Of ∷ Origin.Flag Df
    ∷ Origin.Top ∷ Origin.Undefined ∷ Origin.Outside ∷ []

-- ---- what is known of values, and what they name

-- the names of an origin alone
abbrev pub named_alone : Option Origin → ℕ
named_alone None = 0
named_alone (Some o) = 2 ^ origin_rank o

abbrev pub no_fact : Fact
no_fact = record { known = None; names = 0 }

-- the k-th fact, if there are so many
abbrev pub fact_in : List Fact → ℕ → Fact
fact_in fs k = slice_index_or fs k no_fact

-- of an input, given what is known before any state and the facts of earlier values
abbrev pub fact_for : Width → (Input → Option ℕ) → List Fact → Input → Fact
fact_for w known fs (Input.Earlier k) = fact_in fs k
fact_for w known fs (Input.Number n) = record { known = Some n; names = 0 }
fact_for w known fs x = record { known = known x; names = named_alone (input_origin w x) }

-- what is true of every count: it is below 32
abbrev pub is_sure : Function → Width → Bool
is_sure Function.CountBelowWidth Width.L = true
is_sure Function.CountTurns Width.L = true
is_sure f w = false

abbrev pub value_if_known : Function → Width → Option ℕ → Option ℕ → Option ℕ → Option ℕ
value_if_known f w (Some x) (Some y) (Some z) = Some (value_of f w x y z)
value_if_known f w x y z = None

-- a value is known where its inputs are, and a test of a count where it is true of every count
abbrev pub known_from : Function → Width → Option ℕ → Option ℕ → Option ℕ → Option ℕ
known_from f w x y z = if is_sure f w then Some 1 else value_if_known f w x y z

abbrev pub names_of_three : Fact → Fact → Fact → ℕ
names_of_three x y z = bit_or x.names (bit_or y.names z.names)

-- a choice whose test is known is the chosen branch
abbrev pub picked : Option ℕ → Fact → Fact → Fact → Fact
picked None x y z = record { known = None; names = names_of_three x y z }
picked (Some n) x y z = if n == 0 then z else y

abbrev pub fact_joined : Function → Width → Fact → Fact → Fact → Fact
fact_joined Function.Pick w x y z = picked x.known x y z
fact_joined f w x y z = record { known = known_from f w x.known y.known z.known; names = names_of_three x y z }

abbrev pub op_fact : Width → (Input → Option ℕ) → List Fact → MicroOp → Fact
op_fact w known fs op = fact_joined op.function w (fact_for w known fs op.x) (fact_for w known fs op.y) (fact_for w known fs op.z)

-- the facts of a row's values, behind those so far
abbrev pub facts_from : Width → (Input → Option ℕ) → List MicroOp → List Fact → List Fact
facts_from w known [] fs = fs
facts_from w known (op ∷ ops) fs = facts_from w known ops (fs ++ op_fact w known fs op ∷ [])

abbrev pub facts_of : Width → (Input → Option ℕ) → List MicroOp → List Fact
facts_of w known row = facts_from w known row []

-- an operand that is a number is known
abbrev pub known_number : Width → Bytes → Option Arg → Option ℕ
known_number w bytes (Some (Arg.Number n)) = Some (modulo n (8 * count_of w bytes))
known_number w bytes arg = None

abbrev pub known_in : Sym → Input → Option ℕ
known_in s (Input.Read (Site.Argument k bytes)) = known_number s.width bytes (slice_get s.args k)
known_in s (Input.Kept (Site.Argument k bytes)) = known_number s.width bytes (slice_get s.args k)
known_in s x = None

abbrev pub line_facts : List MicroOp → Sym → List Fact
line_facts row s = facts_of s.width (known_in s) row

-- ---- sources

-- a register, and the memory at the address in one, as operands of a line
abbrev pub register_arg_of : Reg → Slice → Arg
register_arg_of r slice = Arg.Register (Place.Reg r) slice

abbrev pub pointed_arg : Reg → Arg
pointed_arg r = Arg.Address (Disp.Number (pos 0)) (Some (Place.Reg r)) None

abbrev pub arg_or_zero : Option Arg → Arg
arg_or_zero (Some arg) = arg
arg_or_zero None = Arg.Number (pos 0)

-- the k-th operand of a line
abbrev pub line_arg : Sym → ℕ → Arg
line_arg s k = arg_or_zero (slice_get s.args k)

abbrev pub source_in : Sym → Origin → Source
source_in s (Origin.Argument k) = Source.Arg (line_arg s k)
source_in s (Origin.Address k) = Source.Address (line_arg s k)
source_in s (Origin.Pointed r) = Source.Arg (pointed_arg r)
source_in s (Origin.Register r slice) = Source.Arg (register_arg_of r slice)
source_in s (Origin.Flag f) = Source.Flag f
source_in s Origin.Top = Source.Top
source_in s Origin.Undefined = Source.Undefined
source_in s Origin.Outside = Source.Outside

abbrev pub has_name : ℕ → Origin → Bool
has_name names o = bit_at names (origin_rank o) == 1

-- the sources of these names, in their order
abbrev pub sources_of : Sym → ℕ → List Source
sources_of s names = map (source_in s) (filter (has_name names) origins)

-- these names, and what the values from the k-th on with such targets name
abbrev pub names_where : (Target → Bool) → List MicroOp → ℕ → List Fact → ℕ → ℕ
names_where kind [] k fs names = names
names_where kind (op ∷ ops) k fs names = names_where kind ops (k + 1) fs (if kind op.target then bit_or names (fact_in fs k).names else names)

abbrev pub is_control : Target → Bool
is_control Target.Jump = true
is_control Target.Stay = true
is_control Target.Turn = true
is_control Target.Divide = true
is_control target = false

abbrev pub is_write : Target → Bool
is_write (Target.Site site) = true
is_write Target.Push = true
is_write Target.Pop = true
is_write target = false

abbrev pub is_of_use : Target → Bool
is_of_use target = is_control target || is_write target

abbrev pub uses_of : List MicroOp → Sym → List Source
uses_of row s = sources_of s (names_where is_control row 0 (line_facts row s) 0)

abbrev pub reads_of : List MicroOp → Sym → List Source
reads_of row s = sources_of s (names_where is_of_use row 0 (line_facts row s) 0)

-- ---- writes

-- the first byte of a register's bytes in the least name that has them all
abbrev pub first_in_name : Bytes → ℕ
first_in_name Bytes.Byte1 = 0
first_in_name bytes = first_of bytes

abbrev pub copied : Sym → Input → By
copied s (Input.Read (Site.Argument k bytes)) = By.Copy (Source.Arg (line_arg s k)) (first_of bytes)
copied s (Input.Read (Site.Register r bytes)) = By.Copy (Source.Arg (register_arg_of r (slice_with (sized s.width bytes)))) (first_in_name bytes)
copied s (Input.Read (Site.Pointed r)) = By.Copy (Source.Arg (pointed_arg r)) 0
copied s Input.Top = By.Copy Source.Top 0
copied s x = By.Named

abbrev pub set_to : Input → By
set_to (Input.Number n) = By.Set (not (n == 0))
set_to x = By.Named

-- how the value of a micro-operation comes about
abbrev pub by_of : Sym → Function → Input → By
by_of s Function.Copy x = copied s x
by_of s Function.Set x = set_to x
by_of s f x = By.Named

abbrev pub write_to_site : Sym → By → Site → Write
write_to_site s by (Site.Argument k bytes) = record { to = Written.Arg (line_arg s k); first = first_of bytes; count = count_of s.width bytes; by = by }
write_to_site s by (Site.Register r bytes) =
    record { to = Written.Arg (register_arg_of r (slice_with (sized s.width bytes))); first = first_in_name bytes; count = count_of s.width (sized s.width bytes); by = by }
write_to_site s by (Site.Pointed r) = record { to = Written.Arg (pointed_arg r); first = 0; count = bits_of s.width / 8; by = by }
write_to_site s by (Site.Flag f) = record { to = Written.Flag f; first = 0; count = 1; by = by }

abbrev pub write_to : Sym → By → Target → Option Write
write_to s by (Target.Site site) = Some (write_to_site s by site)
write_to s by Target.Push = Some (record { to = Written.Push; first = 0; count = 4; by = by })
write_to s by Target.Pop = Some (record { to = Written.Pop; first = 0; count = 0; by = by })
write_to s by target = None

abbrev pub write_of : Sym → MicroOp → Option Write
write_of s op = write_to s (by_of s op.function op.x) op.target

-- the line's writes, in the row's order
abbrev pub writes_of : List MicroOp → Sym → List Write
writes_of row s = filter_map (write_of s) row

-- the numbers, from k on, of the micro-operations that write
abbrev pub write_numbers : List MicroOp → ℕ → List ℕ
write_numbers [] k = []
write_numbers (op ∷ ops) k = if is_write op.target then k ∷ write_numbers ops (k + 1) else write_numbers ops (k + 1)

abbrev pub if_named : By → List Source → List Source
if_named By.Named names = names
if_named by names = []

abbrev named_at : List MicroOp → Sym → ℕ → Option MicroOp → List Source
named_at row s n (Some op) = if_named (by_of s op.function op.x) (sources_of s (fact_in (line_facts row s) n).names)
named_at row s n None = []

abbrev named_by : List MicroOp → Sym → Option ℕ → List Source
named_by row s (Some n) = named_at row s n (slice_get row n)
named_by row s None = []

-- what the k-th write names; nothing where it is a copy or sets a flag
abbrev pub named_of : List MicroOp → Sym → ℕ → List Source
named_of row s k = named_by row s (slice_get (write_numbers row 0) k)

-- ---- accesses

abbrev pub site_count : Width → Site → ℕ
site_count w (Site.Argument k bytes) = count_of w bytes
site_count w site = bits_of w / 8

-- how many bytes of the origin a site has
abbrev pub count_at : Width → Origin → Site → Option ℕ
count_at w o site = if origin_rank (site_origin w site) == origin_rank o then Some (site_count w site) else None

abbrev pub or_else : Option ℕ → Option ℕ → Option ℕ
or_else (Some n) other = Some n
or_else None other = other

abbrev pub input_load : Width → Origin → Input → Option ℕ
input_load w o (Input.Read site) = count_at w o site
input_load w o x = None

abbrev pub touched : Width → Origin → Target → Option ℕ
touched w o (Target.Touch k) = count_at w o (Site.Argument k Bytes.Whole)
touched w o target = None

abbrev pub target_store : Width → Origin → Target → Option ℕ
target_store w o (Target.Site site) = count_at w o site
target_store w o target = touched w o target

abbrev pub op_load : Width → Origin → MicroOp → Option ℕ
op_load w o op = or_else (touched w o op.target) (or_else (input_load w o op.x) (or_else (input_load w o op.y) (input_load w o op.z)))

-- how many bytes of an origin a micro-operation, or a row, stores or else loads; none where it doesn't
abbrev pub op_access : Bool → Width → Origin → MicroOp → Option ℕ
op_access store w o op = if store then target_store w o op.target else op_load w o op

abbrev pub row_access : Bool → Width → Origin → List MicroOp → Option ℕ
row_access store w o [] = None
row_access store w o (op ∷ ops) = or_else (op_access store w o op) (row_access store w o ops)

-- an operand of a line that is memory
abbrev pub memory_arg : Arg → Option Arg
memory_arg (Arg.Memory k) = Some (Arg.Memory k)
memory_arg (Arg.Address disp base index) = Some (Arg.Address disp base index)
memory_arg arg = None

-- the memory that an origin of a line is
abbrev pub memory_in : Sym → Origin → Option Arg
memory_in s (Origin.Argument k) = memory_arg (line_arg s k)
memory_in s (Origin.Pointed r) = Some (pointed_arg r)
memory_in s o = None

abbrev pub access_by : Bool → Option ℕ → Option Arg → Option Access
access_by store (Some bytes) (Some memory) = Some (record { to = memory; bytes = bytes; store = store })
access_by store bytes memory = None

abbrev pub access_at : Bool → List MicroOp → Sym → Origin → Option Access
access_at store row s o = access_by store (row_access store s.width o row) (memory_in s o)

-- the line's accesses, loads before stores
abbrev pub accesses_of : List MicroOp → Sym → List Access
accesses_of row s = filter_map (access_at false row s) origins ++ filter_map (access_at true row s) origins
