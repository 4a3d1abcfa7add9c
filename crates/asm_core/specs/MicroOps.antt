-- What a row of micro-operations does to a state. A row is straight-line code in single-assignment form: each value is
-- computed from what stood there before the instruction and from earlier values; then the values are written, in the row's
-- order, at places that were fixed before anything was written. Nothing here names a register, a flag or an operation.
use Rattle.std.specs.Prelude.{ℕ, ◌+◌, ◌-◌, ◌*◌, ◌/◌, ◌%◌, ◌^◌, ◌==◌, nat_lt, ◌&&◌, ◌||◌, not, List, [], ◌∷◌, ◌++◌, map, Bool, true, false, Option, None, Some, slice_get, slice_index, if◌then◌else◌}
use Rattle.std.specs.List.{list_any, list_all}
use Rattle.asm_core.specs.Flag.{flag_in, with_flag}
use Rattle.asm_core.specs.Function.{bits_of, bit, value_of}
use Rattle.asm_core.specs.Machine.{reg_in, with_reg}
use Rattle.asm_core.specs.Memory.{modulo, address_of, word_at, with_word, is_good_access, scratch_word, with_scratch_word}
use Rattle.asm_core.specs.declared.reg.Slice.{Slice}
use Rattle.asm_core.specs.declared.inst.Width.{Width}
use Rattle.asm_core.specs.declared.inst.Inst.{Inst}
use Rattle.asm_core.specs.declared.inst.InstArg.{InstArg}
use Rattle.asm_core.specs.declared.micro_op.Bytes.{Bytes}
use Rattle.asm_core.specs.declared.micro_op.Site.{Site}
use Rattle.asm_core.specs.declared.micro_op.Input.{Input}
use Rattle.asm_core.specs.declared.micro_op.Target.{Target}
use Rattle.asm_core.specs.declared.micro_op.MicroOp.{MicroOp}
use Rattle.asm_core.specs.declared.micro_op.Destination.{Destination}
use Rattle.asm_core.specs.declared.machine.Fault.{Fault}
use Rattle.asm_core.specs.declared.machine.Machine.{Machine}

-- ---- bytes of a register or an operand

-- how many, and the first
abbrev pub count_of : Width → Bytes → ℕ
count_of w Bytes.Whole = bits_of w / 8
count_of w Bytes.Byte0 = 1
count_of w Bytes.Byte1 = 1
count_of w Bytes.Byte2 = 1
count_of w Bytes.Byte3 = 1
count_of w Bytes.Low16 = 2
count_of w Bytes.High16 = 2
count_of w Bytes.Upper24 = 3
count_of w Bytes.All = 4

abbrev pub first_of : Bytes → ℕ
first_of Bytes.Byte1 = 1
first_of Bytes.Byte2 = 2
first_of Bytes.Byte3 = 3
first_of Bytes.High16 = 2
first_of Bytes.Upper24 = 1
first_of bytes = 0

-- the bytes of a register that are as many as the width says
abbrev pub sized : Width → Bytes → Bytes
sized Width.B Bytes.Whole = Bytes.Byte0
sized Width.W Bytes.Whole = Bytes.Low16
sized w Bytes.Whole = Bytes.All
sized w bytes = bytes

abbrev pub bytes_named : Slice → Bytes
bytes_named Slice.Low8 = Bytes.Byte0
bytes_named Slice.High8 = Bytes.Byte1
bytes_named Slice.Low16 = Bytes.Low16
bytes_named Slice.All = Bytes.All

-- bytes of a register operand, counted from the first that its name names
abbrev pub within : Slice → Bytes → Bytes
within slice Bytes.Whole = bytes_named slice
within Slice.High8 bytes = Bytes.Byte1
within slice bytes = bytes

-- the value of these bytes of a register, and the register with these bytes of a value in them
abbrev pub part_of : Bytes → ℕ → ℕ
part_of Bytes.Whole v = v
part_of Bytes.Byte0 v = v % 256
part_of Bytes.Byte1 v = v / 256 % 256
part_of Bytes.Byte2 v = v / 65536 % 256
part_of Bytes.Byte3 v = v / 16777216 % 256
part_of Bytes.Low16 v = v % 65536
part_of Bytes.High16 v = v / 65536 % 65536
part_of Bytes.Upper24 v = v / 256 % 16777216
part_of Bytes.All v = v

abbrev pub with_part : Bytes → ℕ → ℕ → ℕ
with_part Bytes.Whole v old = v % 2 ^ 32
with_part Bytes.Byte0 v old = old / 256 * 256 + v % 256
with_part Bytes.Byte1 v old = old / 65536 * 65536 + v % 256 * 256 + old % 256
with_part Bytes.Byte2 v old = old / 16777216 * 16777216 + v % 256 * 65536 + old % 65536
with_part Bytes.Byte3 v old = v % 256 * 16777216 + old % 16777216
with_part Bytes.Low16 v old = old / 65536 * 65536 + v % 65536
with_part Bytes.High16 v old = v % 65536 * 65536 + old % 65536
with_part Bytes.Upper24 v old = v % 16777216 * 256 + old % 256
with_part Bytes.All v old = v % 2 ^ 32

-- ---- values

-- the k-th operand
abbrev pub arg_at : Inst → ℕ → Option InstArg
arg_at i k = elim (slice_get i.args k) [ None ↦ None | Some arg ↦ arg ]

abbrev pub read_arg : Width → Bytes → Option InstArg → Machine → ℕ
read_arg w bytes (Some (InstArg.Register r slice)) m = part_of (within slice bytes) (reg_in r m)
read_arg w bytes (Some (InstArg.Number n)) m = modulo n (8 * count_of w bytes)
read_arg w bytes (Some (InstArg.Address form k)) m = word_at (count_of w bytes) (address_of form m + first_of bytes) m.ranges
read_arg w bytes (Some (InstArg.Label k)) m = 0
read_arg w bytes None m = 0

abbrev pub read_site : Inst → Machine → Site → ℕ
read_site i m (Site.Argument k bytes) = read_arg i.width bytes (arg_at i k) m
read_site i m (Site.Register r bytes) = part_of (sized i.width bytes) (reg_in r m)
read_site i m (Site.Pointed r) = word_at (bits_of i.width / 8) (reg_in r m) m.ranges
read_site i m (Site.Flag f) = bit (flag_in f m.flags)

abbrev pub address_in : Option InstArg → Machine → ℕ
address_in (Some (InstArg.Address form k)) m = address_of form m
address_in arg m = 0

-- what an input that is no value of the row is in a state
abbrev pub read_in : Inst → ℕ → List ℕ → Machine → Input → ℕ
read_in i choice words m (Input.Read site) = read_site i m site
read_in i choice words m (Input.Kept site) = read_site i m site
read_in i choice words m (Input.Address k) = address_in (arg_at i k) m
read_in i choice words m Input.Top = scratch_word m.scratch (m.scratch_top - 1)
read_in i choice words m (Input.Undefined n) = choice / 2 ^ n
read_in i choice words m (Input.Outside k) = slice_index words k
read_in i choice words m (Input.Earlier k) = 0
read_in i choice words m (Input.Number n) = 0

-- an input, given what is read and the values so far
abbrev pub input_of : (Input → ℕ) → List ℕ → Input → ℕ
input_of env vs (Input.Earlier k) = slice_index vs k
input_of env vs (Input.Number n) = n
input_of env vs x = env x

abbrev pub op_value : Width → (Input → ℕ) → List ℕ → MicroOp → ℕ
op_value w env vs op = value_of op.function w (input_of env vs op.x) (input_of env vs op.y) (input_of env vs op.z)

-- the values of a row, behind those so far
abbrev pub values_from : Width → (Input → ℕ) → List MicroOp → List ℕ → List ℕ
values_from w env [] vs = vs
values_from w env (op ∷ ops) vs = values_from w env ops (vs ++ op_value w env vs op ∷ [])

abbrev pub values_of : Width → (Input → ℕ) → List MicroOp → List ℕ
values_of w env row = values_from w env row []

-- ---- accesses

-- whether a site can be read or, as a store, written
abbrev pub is_good_arg : Width → Bytes → Bool → Option InstArg → Machine → Bool
is_good_arg w bytes store (Some (InstArg.Register r slice)) m = true
is_good_arg w bytes store (Some (InstArg.Number n)) m = not store
is_good_arg w bytes store (Some (InstArg.Address form k)) m = is_good_access m k store (count_of w bytes) (address_of form m + first_of bytes)
is_good_arg w bytes store (Some (InstArg.Label k)) m = false
is_good_arg w bytes store None m = false

abbrev pub is_good_site : Inst → Machine → Bool → Site → Bool
is_good_site i m store (Site.Argument k bytes) = is_good_arg i.width bytes store (arg_at i k) m
is_good_site i m store (Site.Pointed r) = is_good_access m None store (bits_of i.width / 8) (reg_in r m)
is_good_site i m store site = true

abbrev pub is_good_input : Inst → Machine → Input → Bool
is_good_input i m (Input.Read site) = is_good_site i m false site
is_good_input i m Input.Top = nat_lt 0 m.scratch_top
is_good_input i m x = true

abbrev pub is_good_target : Inst → Machine → Target → Bool
is_good_target i m (Target.Site site) = is_good_site i m true site
is_good_target i m (Target.Touch k) = is_good_site i m false (Site.Argument k Bytes.Whole) && is_good_site i m true (Site.Argument k Bytes.Whole)
is_good_target i m Target.Push = nat_lt m.scratch_top 16
is_good_target i m Target.Pop = nat_lt 0 m.scratch_top
is_good_target i m target = true

abbrev pub is_good_op : Inst → Machine → MicroOp → Bool
is_good_op i m op = is_good_input i m op.x && is_good_input i m op.y && is_good_input i m op.z && is_good_target i m op.target

-- ---- writes

abbrev pub arg_destination : Width → Bytes → Option InstArg → Machine → Destination
arg_destination w bytes (Some (InstArg.Register r slice)) m = Destination.Register r (within slice bytes)
arg_destination w bytes (Some (InstArg.Address form k)) m = Destination.Memory ((address_of form m + first_of bytes) % 2 ^ 32) (count_of w bytes)
arg_destination w bytes arg m = Destination.Nowhere

abbrev pub site_destination : Inst → Machine → Site → Destination
site_destination i m (Site.Argument k bytes) = arg_destination i.width bytes (arg_at i k) m
site_destination i m (Site.Register r bytes) = Destination.Register r (sized i.width bytes)
site_destination i m (Site.Pointed r) = Destination.Memory (reg_in r m) (bits_of i.width / 8)
site_destination i m (Site.Flag f) = Destination.Flag f

abbrev pub destination_of : Inst → Machine → Target → Destination
destination_of i m (Target.Site site) = site_destination i m site
destination_of i m Target.Push = Destination.Push m.scratch_top
destination_of i m Target.Pop = Destination.Pop m.scratch_top
destination_of i m target = Destination.Nowhere

abbrev pub destinations_of : Inst → Machine → List MicroOp → List Destination
destinations_of i m row = map (λ (op : MicroOp). destination_of i m op.target) row

-- a pushed word lowers esp by its 4 bytes, and a popped one raises it
abbrev pub pushed : ℕ → ℕ → Machine → Machine
pushed n v m = record m { scratch = with_scratch_word m.scratch n v; scratch_top = n + 1; esp = (m.esp + 2 ^ 32 - 4) % 2 ^ 32 }

abbrev pub popped : ℕ → Machine → Machine
popped n m = record m { scratch_top = n - 1; esp = (m.esp + 4) % 2 ^ 32 }

-- the state with a value written, cut to its destination
abbrev pub put : Destination → ℕ → Machine → Machine
put Destination.Nowhere v m = m
put (Destination.Register r bytes) v m = with_reg r (with_part bytes v (reg_in r m)) m
put (Destination.Memory a n) v m = record m { ranges = with_word n a v m.ranges }
put (Destination.Flag f) v m = record m { flags = with_flag f v m.flags }
put (Destination.Push n) v m = if nat_lt n 16 then pushed n v m else m
put (Destination.Pop n) v m = popped n m

-- each value from the k-th on written at its destination
abbrev pub put_all : List Destination → ℕ → List ℕ → Machine → Machine
put_all [] k vs m = m
put_all (d ∷ ds) k vs m = put_all ds (k + 1) vs (put d (slice_index vs k) m)

-- ---- control

abbrev pub is_jump : Target → Bool
is_jump Target.Jump = true
is_jump target = false

abbrev pub is_stay : Target → Bool
is_stay Target.Stay = true
is_stay target = false

abbrev pub is_turn : Target → Bool
is_turn Target.Turn = true
is_turn target = false

abbrev pub is_divide : Target → Bool
is_divide Target.Divide = true
is_divide target = false

-- some value from the k-th on whose target is of the kind passes the test
abbrev pub any_value : (Target → Bool) → (ℕ → Bool) → List MicroOp → ℕ → List ℕ → Bool
any_value kind test [] k vs = false
any_value kind test (op ∷ ops) k vs = (kind op.target && test (slice_index vs k)) || any_value kind test ops (k + 1) vs

abbrev pub is_zero : ℕ → Bool
is_zero v = v == 0

abbrev pub is_set : ℕ → Bool
is_set v = not (v == 0)

-- a repeated instruction has no more turns
abbrev pub is_over : List MicroOp → List ℕ → Bool
is_over row vs = any_value is_turn is_zero row 0 vs

abbrev pub divides : List MicroOp → List ℕ → Bool
divides row vs = any_value is_divide is_set row 0 vs

abbrev pub next_of : List MicroOp → List ℕ → ℕ → ℕ → ℕ
next_of row vs goal at =
    if any_value is_jump is_set row 0 vs then goal
    else if any_value is_stay is_set row 0 vs then at
    else at + 1

abbrev pub is_outside : Input → Bool
is_outside (Input.Outside k) = true
is_outside x = false

-- the row takes words from outside
abbrev pub takes_outside : List MicroOp → Bool
takes_outside row = list_any (λ (op : MicroOp). is_outside op.x) row

-- ---- a step

-- how a step ends
pub data Stepped : Type 0 where
  Moved : Machine → Stepped
  MovedOutside : Machine → Stepped
  Ended : Stepped
  Faulted : Fault → Stepped

abbrev pub moved : Bool → Machine → Stepped
moved outside m = if outside then Stepped.MovedOutside m else Stepped.Moved m

-- the state after the values are written
abbrev pub written : List MicroOp → Inst → ℕ → List ℕ → Machine → Machine
written row i goal vs m = record (put_all (destinations_of i m row) 0 vs m) { at = next_of row vs goal m.at }

-- the end of a step, given the row's values: an instruction that is over does nothing; a bad access stands before a
-- division that can't be done
abbrev pub ended_by : List MicroOp → Inst → ℕ → List ℕ → Machine → Stepped
ended_by row i goal vs m =
    if is_over row vs then Stepped.Moved (record m { at = m.at + 1 })
    else if not (list_all (is_good_op i m) row) then Stepped.Faulted Fault.Access
    else if divides row vs then Stepped.Faulted Fault.Divide
    else moved (takes_outside row) (written row i goal vs m)

abbrev pub row_ended : List MicroOp → Inst → ℕ → ℕ → List ℕ → Machine → Stepped
row_ended row i goal choice words m = ended_by row i goal (values_of i.width (read_in i choice words m) row) m
