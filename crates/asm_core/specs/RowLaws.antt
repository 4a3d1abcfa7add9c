-- What holds of the steps of every row, whatever its micro-operations are.
use Rattle.std.specs.Prelude.{◌≡◌, ◌⊎◌, ℕ, zero, suc, ◌+◌, ◌-◌, ◌*◌, ◌/◌, ◌%◌, ◌^◌, ◌<◌, ◌≤◌, List, [], ◌∷◌, drop, length, slice_get, slice_index, Option, None, Some}
use Rattle.std.specs.Int.{bit_at}
use Rattle.asm_core.specs.Entries.{origin_rank, input_origin, fact_in, facts_of, line_facts, names_where, is_control, known_in, write_of, writes_of}
use Rattle.asm_core.specs.Function.{bits_of, bit}
use Rattle.asm_core.specs.Flag.{flag_in}
use Rattle.asm_core.specs.Machine.{reg_in, byte_at, layouts_of}
use Rattle.asm_core.specs.Memory.{modulo, address_of}
use Rattle.asm_core.specs.MicroOps.{Stepped, first_of, count_of, sized, bytes_named, arg_at, values_of, read_in, is_over, divides, next_of, destinations_of, row_ended}
use Rattle.asm_core.specs.Reading.Placed.{operand_under, operand_at, inst_under}
use Rattle.asm_core.specs.Rows.{inst_row, line_row, row_step}
use Rattle.asm_core.specs.declared.reg.Reg.{Reg}
use Rattle.asm_core.specs.declared.reg.Slice.{Slice}
use Rattle.asm_core.specs.declared.flag.Flag.{Flag}
use Rattle.asm_core.specs.declared.inst.Width.{Width}
use Rattle.asm_core.specs.declared.inst.Inst.{Inst}
use Rattle.asm_core.specs.declared.inst.InstArg.{InstArg}
use Rattle.asm_core.specs.declared.sym.Arg.{Arg}
use Rattle.asm_core.specs.declared.sym.Sym.{Sym}
use Rattle.asm_core.specs.declared.placement.Placement.{Placement}
use Rattle.asm_core.specs.declared.micro_op.MicroOp.{MicroOp}
use Rattle.asm_core.specs.declared.micro_op.Bytes.{Bytes}
use Rattle.asm_core.specs.declared.micro_op.Site.{Site}
use Rattle.asm_core.specs.declared.micro_op.Target.{Target}
use Rattle.asm_core.specs.declared.micro_op.Input.{Input}
use Rattle.asm_core.specs.declared.micro_op.Origin.{Origin}
use Rattle.asm_core.specs.declared.micro_op.Destination.{Destination}
use Rattle.asm_core.specs.declared.micro_op.Function.{Function}
use Rattle.asm_core.specs.declared.row.Source.{Source}
use Rattle.asm_core.specs.declared.row.By.{By}
use Rattle.asm_core.specs.declared.row.Written.{Written}
use Rattle.asm_core.specs.declared.row.Write.{Write}
use Rattle.asm_core.specs.declared.machine.Machine.{Machine}

-- the property holds after a step that is no fault; no instruction ends a run by itself
abbrev pub HoldsAfter : (Machine → Type 0) → Stepped → Type 0
HoldsAfter P (Stepped.Moved next) = P next
HoldsAfter P (Stepped.MovedOutside next) = P next
HoldsAfter P Stepped.Ended = ⊥
HoldsAfter P (Stepped.Faulted fault) = Unit {0}

-- ---- what a step can change, beside the position: registers as a whole and byte by byte, and the rest in its smallest parts

pub data Component : Type 0 where
  WholeRegister : (r : Reg) → Component
  RegisterByte : (r : Reg) (j : ℕ) → Component
  FlagBit : (f : Flag) → Component
  MemoryByte : (address : ℕ) → Component
  ScratchByte : (j : ℕ) → Component
  Depth : Component
  Esp : Component

-- byte j of a register's value
abbrev pub byte_of : ℕ → ℕ → ℕ
byte_of zero v = v % 256
byte_of (suc zero) v = v / 256 % 256
byte_of (suc (suc zero)) v = v / 65536 % 256
byte_of (suc (suc (suc zero))) v = v / 16777216 % 256
byte_of (suc (suc (suc (suc j)))) v = 0

-- byte o of a value of any size
abbrev pub nth_byte : ℕ → ℕ → ℕ
nth_byte zero v = v % 256
nth_byte (suc o) v = nth_byte o (v / 256)

abbrev pub component_in : Component → Machine → ℕ
component_in (Component.WholeRegister r) m = reg_in r m
component_in (Component.RegisterByte r j) m = byte_of j (reg_in r m)
component_in (Component.FlagBit f) m = bit (flag_in f m.flags)
component_in (Component.MemoryByte a) m = byte_at m.ranges a
component_in (Component.ScratchByte j) m = slice_index m.scratch j
component_in Component.Depth m = m.scratch_top
component_in Component.Esp m = m.esp

-- components that may not change have the values they had, and the ranges are where they were
pub record ChangesOnly (May : Component → Type 0) (before after : Machine) : Type 0 where
  pub components : (c : Component) → (May c → ⊥) → component_in c after ≡ component_in c before
  pub layouts : layouts_of after.ranges ≡ layouts_of before.ranges

-- ---- what is written at a destination

-- byte j is one of n bytes from the first on
abbrev pub IsAmong : ℕ → ℕ → ℕ → Type 0
IsAmong first n j = (first ≤ j) × (j < first + n)

-- the address is one of n from a on
abbrev pub LiesAt : ℕ → ℕ → ℕ → Type 0
LiesAt a n address = (o : ℕ) × (o < n) × (address ≡ (a + o) % 2 ^ 32)

abbrev pub IsHit : Destination → Component → Type 0
IsHit (Destination.Register r bytes) (Component.WholeRegister q) = r ≡ q
IsHit (Destination.Register r bytes) (Component.RegisterByte q j) = (r ≡ q) × IsAmong (first_of bytes) (count_of Width.L bytes) j
IsHit (Destination.Memory a n) (Component.MemoryByte address) = LiesAt a n address
IsHit (Destination.Flag f) (Component.FlagBit g) = f ≡ g
IsHit (Destination.Push n) (Component.ScratchByte j) = IsAmong (4 * n) 4 j
IsHit (Destination.Push n) Component.Depth = Unit {0}
IsHit (Destination.Push n) Component.Esp = Unit {0}
IsHit (Destination.Pop n) Component.Depth = Unit {0}
IsHit (Destination.Pop n) Component.Esp = Unit {0}
IsHit destination c = ⊥

-- one of the destinations has the component
abbrev pub IsHitByOne : List Destination → Component → Type 0
IsHitByOne [] c = ⊥
IsHitByOne (d ∷ ds) c = IsHit d c ⊎ IsHitByOne ds c

-- ---- what is named decides

-- the readings agree on all inputs whose origin is among the names
pub record AgreesOn (w : Width) (env env' : Input → ℕ) (names : ℕ) : Type 0 where
  pub same : (x : Input) (o : Origin) → input_origin w x ≡ Some o → bit_at names (origin_rank o) ≡ 1 → env x ≡ env' x

-- the reading gives what is known before any state
pub record Knows (known : Input → Option ℕ) (env : Input → ℕ) : Type 0 where
  pub is : (x : Input) (n : ℕ) → known x ≡ Some n → env x ≡ n

-- Two readings that give what is known agree on a value where they agree on what it names. Where they agree on what the values
-- name that say how a step goes on, they say it alike.
pub record NamesDecide (row : List MicroOp) (w : Width) (known : Input → Option ℕ) : Type 0 where
  pub values : (env env' : Input → ℕ) (k : ℕ) → Knows known env → Knows known env' → AgreesOn w env env' (fact_in (facts_of w known row) k).names
      → slice_index (values_of w env row) k ≡ slice_index (values_of w env' row) k
  pub ends : (env env' : Input → ℕ) → Knows known env → Knows known env' → AgreesOn w env env' (names_where is_control row 0 (facts_of w known row) 0)
      → (is_over row (values_of w env row) ≡ is_over row (values_of w env' row))
      × (divides row (values_of w env row) ≡ divides row (values_of w env' row))
      × ((goal at : ℕ) → next_of row (values_of w env row) goal at ≡ next_of row (values_of w env' row) goal at)

-- Beside the position a step changes only what is at its destinations.
abbrev pub ChangesDestinations : List MicroOp → Inst → Machine → Machine → Type 0
ChangesDestinations row i before after = ChangesOnly (IsHitByOne (destinations_of i before row)) before after

-- before any state, a line's numbers are known: a placed line reads them so
pub record ReadsKnown (p : Placement) (s : Sym) : Type 0 where
  pub each : (choice : ℕ) (words : List ℕ) (m : Machine) → Knows (known_in s) (read_in (inst_under p s) choice words m)

-- ---- a line under a placement

-- before any state, an instruction's numbers are known
abbrev pub known_operand : Width → Bytes → Option InstArg → Option ℕ
known_operand w bytes (Some (InstArg.Number n)) = Some (modulo n (8 * count_of w bytes))
known_operand w bytes arg = None

abbrev pub known_of : Inst → Input → Option ℕ
known_of i (Input.Read (Site.Argument k bytes)) = known_operand i.width bytes (arg_at i k)
known_of i (Input.Kept (Site.Argument k bytes)) = known_operand i.width bytes (arg_at i k)
known_of i x = None

-- the line has at most three operands, and the placement says where each is
pub record IsPlaced (p : Placement) (s : Sym) : Type 0 where
  pub few : length s.args ≤ 3
  pub each : (k : ℕ) (arg : Arg) → slice_get s.args k ≡ Some arg → operand_under p arg ≡ None → ⊥

-- Placing a line and then stepping equals stepping as the line says: the row is the line's, each operand is where the
-- placement puts the line's, and what a value of a placed line names, the line names.
pub record StepsAsLine (p : Placement) (s : Sym) : Type 0 where
  pub row : inst_row (inst_under p s) ≡ line_row s
  pub operands : (k : ℕ) → arg_at (inst_under p s) k ≡ operand_at p (slice_get s.args k)
  pub steps : (goal choice : ℕ) (words : List ℕ) (m : Machine) → row_step (inst_under p s) goal choice words m ≡ row_ended (line_row s) (inst_under p s) goal choice words m
  pub knows : (choice : ℕ) (words : List ℕ) (m : Machine) → Knows (known_of (inst_under p s)) (read_in (inst_under p s) choice words m)
  pub names : (row : List MicroOp) (k r : ℕ) → bit_at (fact_in (facts_of s.width (known_of (inst_under p s)) row) k).names r ≡ 1 → bit_at (fact_in (line_facts row s) k).names r ≡ 1

-- ---- what a line's writes tell

-- byte o of an operand, counted from the first that its name names
abbrev pub operand_byte : Option InstArg → ℕ → Machine → Option Component
operand_byte (Some (InstArg.Register r slice)) o m = Some (Component.RegisterByte r (first_of (bytes_named slice) + o))
operand_byte (Some (InstArg.Address form k)) o m = Some (Component.MemoryByte ((address_of form m + o) % 2 ^ 32))
operand_byte arg o m = None

-- byte o of what is written, in the state before; a flag is one
abbrev pub written_byte : Placement → Machine → Written → ℕ → Option Component
written_byte p m (Written.Arg arg) o = operand_byte (operand_under p arg) o m
written_byte p m (Written.Flag f) o = Some (Component.FlagBit f)
written_byte p m Written.Push o = Some (Component.ScratchByte (4 * m.scratch_top + o))
written_byte p m Written.Pop o = None

abbrev pub IsStackMove : Written → Type 0
IsStackMove Written.Push = Unit {0}
IsStackMove Written.Pop = Unit {0}
IsStackMove to = ⊥

abbrev pub IsToldByte : Placement → Machine → Write → Component → Type 0
IsToldByte p m w c = (o : ℕ) × (o < w.count) × (written_byte p m w.to (w.first + o) ≡ Some c)

-- a write tells its bytes and the registers that have them, and a push or pop the depth and esp
abbrev pub IsTold : Placement → Machine → Write → Component → Type 0
IsTold p m w (Component.WholeRegister r) = (j : ℕ) × IsToldByte p m w (Component.RegisterByte r j)
IsTold p m w Component.Depth = IsStackMove w.to
IsTold p m w Component.Esp = IsStackMove w.to
IsTold p m w c = IsToldByte p m w c

abbrev pub IsToldByOne : Placement → Machine → List Write → Component → Type 0
IsToldByOne p m [] c = ⊥
IsToldByOne p m (w ∷ ws) c = IsTold p m w c ⊎ IsToldByOne p m ws c

-- The bytes of a register operand are among those that its name names, and as many as the width says are all of them.
abbrev pub HasBytes : Width → Slice → Bytes → Type 0
HasBytes w slice Bytes.Whole = count_of Width.L (bytes_named slice) ≡ count_of w Bytes.Whole
HasBytes w slice bytes = first_of bytes + count_of w bytes ≤ count_of Width.L (bytes_named slice)

-- an operand has the bytes that are read or written there; a number is read from its lowest byte on
abbrev pub FitsOperand : Width → Bytes → Option InstArg → Type 0
FitsOperand w bytes (Some (InstArg.Register r slice)) = HasBytes w slice bytes
FitsOperand w bytes (Some (InstArg.Number n)) = first_of bytes ≡ 0
FitsOperand w bytes arg = Unit {0}

abbrev pub FitsSite : Placement → Sym → Site → Type 0
FitsSite p s (Site.Argument k bytes) = FitsOperand s.width bytes (operand_at p (slice_get s.args k))
FitsSite p s site = Unit {0}

abbrev pub FitsTarget : Placement → Sym → Target → Type 0
FitsTarget p s (Target.Site site) = FitsSite p s site
FitsTarget p s target = Unit {0}

-- the operands of a placed line have the bytes that a row writes
abbrev pub FitsTargets : Placement → Sym → List MicroOp → Type 0
FitsTargets p s [] = Unit {0}
FitsTargets p s (op ∷ ops) = FitsTarget p s op.target × FitsTargets p s ops

-- ---- what a step leaves in the bytes that it writes

-- a value as a component holds it: a flag is its lowest bit
abbrev pub held : Component → ℕ → ℕ
held (Component.FlagBit f) v = v % 2
held c v = v

-- byte o of an operand's value, counted from the first that its name names
abbrev pub operand_value : Option InstArg → ℕ → Machine → ℕ
operand_value (Some (InstArg.Register r slice)) o m = byte_of (first_of (bytes_named slice) + o) (reg_in r m)
operand_value (Some (InstArg.Number n)) o m = nth_byte o (modulo n 64)
operand_value (Some (InstArg.Address form k)) o m = byte_at m.ranges ((address_of form m + o) % 2 ^ 32)
operand_value arg o m = 0

-- byte o of what can be copied
abbrev pub source_byte : Placement → Machine → Source → ℕ → ℕ
source_byte p m (Source.Arg arg) o = operand_value (operand_under p arg) o m
source_byte p m Source.Top o = slice_index m.scratch (4 * (m.scratch_top - 1) + o)
source_byte p m source o = 0

-- byte o of what a write says of its value
abbrev pub byte_by : Placement → Machine → By → ℕ → Option ℕ
byte_by p m (By.Copy source first) o = Some (source_byte p m source (first + o))
byte_by p m (By.Set b) o = Some (nth_byte o (bit b))
byte_by p m By.Named o = None

-- how many bytes of a site are read or written
abbrev pub byte_count : Width → Site → ℕ
byte_count w (Site.Argument k bytes) = count_of w bytes
byte_count w (Site.Register r bytes) = count_of w (sized w bytes)
byte_count w (Site.Pointed r) = bits_of w / 8
byte_count w (Site.Flag f) = 1

abbrev pub target_count : Width → Target → ℕ
target_count w (Target.Site site) = byte_count w site
target_count w Target.Push = 4
target_count w target = 0

-- what is copied has the bytes that are written, and what is set is a bit
abbrev pub FitsInput : Placement → Sym → Function → Input → ℕ → Type 0
FitsInput p s Function.Copy (Input.Read site) count = FitsSite p s site × (count ≤ byte_count s.width site)
FitsInput p s Function.Copy Input.Top count = count ≤ 4
FitsInput p s Function.Set (Input.Number n) count = n ≤ 1
FitsInput p s f x count = Unit {0}

-- the operands of a placed line have the bytes that a row copies
abbrev pub FitsCopies : Placement → Sym → List MicroOp → Type 0
FitsCopies p s [] = Unit {0}
FitsCopies p s (op ∷ ops) = FitsInput p s op.function op.x (target_count s.width op.target) × FitsCopies p s ops

-- c is byte o of what the row's micro-operation k writes, and no later one writes it too
pub record IsLast (p : Placement) (s : Sym) (row : List MicroOp) (m : Machine) (k o : ℕ) (w : Write) (c : Component) : Type 0 where
  pub op : MicroOp
  pub is_op : slice_get row k ≡ Some op
  pub is_write : write_of s op ≡ Some w
  pub within : o < w.count
  pub here : written_byte p m w.to (w.first + o) ≡ Some c
  pub last : IsToldByOne p m (writes_of (drop (k + 1) row) s) c → ⊥

-- what is written is left there
abbrev pub LeavesValues : Placement → Sym → List MicroOp → List ℕ → Machine → Machine → Type 0
LeavesValues p s row vs before after = (k o : ℕ) (w : Write) (c : Component) → IsLast p s row before k o w c → component_in c after ≡ held c (nth_byte o (slice_index vs k))

-- a copy leaves the source's bytes as they were before, and what is set is left so
abbrev pub LeavesCopies : Placement → Sym → List MicroOp → Machine → Machine → Type 0
LeavesCopies p s row before after = (k o : ℕ) (w : Write) (c : Component) (n : ℕ) → IsLast p s row before k o w c → byte_by p before w.by o ≡ Some n → component_in c after ≡ held c n
