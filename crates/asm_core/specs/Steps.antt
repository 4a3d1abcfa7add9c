-- Steps by any row: two steps of one line, a step as its moves, how a step ends, and all laws together.
use Rattle.std.specs.Prelude.{◌≡◌, ℕ, ◌+◌, ◌-◌, ◌*◌, ◌%◌, ◌^◌, ◌==◌, ◌<◌, ◌≤◌, nat_le, nat_lt, ◌&&◌, if◌then◌else◌, List, [], ◌∷◌, length, Bool, true, false, slice_index, Option, None, Some}
use Rattle.std.specs.List.{list_any}
use Rattle.asm_core.specs.Entries.{fact_in, facts_of, line_facts, names_where, is_control, known_in, writes_of}
use Rattle.asm_core.specs.Flag.{flag_number}
use Rattle.asm_core.specs.Machine.{IsMachine, reg_in, covers, layouts_of}
use Rattle.asm_core.specs.Memory.{address_of}
use Rattle.asm_core.specs.MicroOps.{Stepped, first_of, count_of, arg_at, is_good_arg, values_of, read_in, is_over, destinations_of, row_ended}
use Rattle.asm_core.specs.Reading.Placed.{inst_under}
use Rattle.asm_core.specs.Reg.{reg_number}
use Rattle.asm_core.specs.declared.inst.Width.{Width}
use Rattle.asm_core.specs.declared.inst.Inst.{Inst}
use Rattle.asm_core.specs.declared.inst.InstArg.{InstArg}
use Rattle.asm_core.specs.declared.sym.Sym.{Sym}
use Rattle.asm_core.specs.declared.placement.Placement.{Placement}
use Rattle.asm_core.specs.declared.micro_op.MicroOp.{MicroOp}
use Rattle.asm_core.specs.declared.micro_op.Bytes.{Bytes}
use Rattle.asm_core.specs.declared.micro_op.Site.{Site}
use Rattle.asm_core.specs.declared.micro_op.Target.{Target}
use Rattle.asm_core.specs.declared.micro_op.Input.{Input}
use Rattle.asm_core.specs.declared.micro_op.Destination.{Destination}
use Rattle.asm_core.specs.declared.row.Write.{Write}
use Rattle.asm_core.specs.declared.machine.Fault.{Fault}
use Rattle.asm_core.specs.declared.machine.Machine.{Machine}
use Rattle.asm_core.specs.RowLaws.{Component, nth_byte, component_in, ChangesOnly, AgreesOn, Knows, NamesDecide, IsPlaced, StepsAsLine, IsToldByOne, FitsTargets, held, FitsCopies, IsLast, LeavesValues, LeavesCopies}

-- ---- two steps of one line

-- the state after a step that is no fault
abbrev pub IsAfter : Stepped → Machine → Type 0
IsAfter (Stepped.Moved next) after = after ≡ next
IsAfter (Stepped.MovedOutside next) after = after ≡ next
IsAfter Stepped.Ended after = ⊥
IsAfter (Stepped.Faulted fault) after = ⊥

-- a state in which a line stands at a placement, with what a step takes besides, and the state after the step
pub record Stand : Type 0 where
  pub at : Placement
  pub before : Machine
  pub choice : ℕ
  pub words : List ℕ
  pub goal : ℕ
  pub after : Machine

abbrev pub reads_at : Sym → Stand → Input → ℕ
reads_at s x = read_in (inst_under x.at s) x.choice x.words x.before

-- the step of a line by that row is no fault and isn't over, on a machine that has the operands
pub record IsDone (row : List MicroOp) (s : Sym) (x : Stand) : Type 0 where
  pub is_machine : IsMachine x.before
  pub fits : FitsTargets x.at s row
  pub goes_on : is_over row (values_of s.width (reads_at s x) row) ≡ false
  pub step : IsAfter (row_ended row (inst_under x.at s) x.goal x.choice x.words x.before) x.after

-- Wherever a line's operands are, be it a number here and a register or memory there, two steps that agree on what a write
-- names agree on what is written, but for bytes that a later write writes too.
abbrev pub AgreesOnWrites : List MicroOp → Sym → Stand → Stand → Type 0
AgreesOnWrites row s x y = (k o : ℕ) (w : Write) (c d : Component) → IsLast x.at s row x.before k o w c → IsLast y.at s row y.before k o w d
    → AgreesOn s.width (reads_at s x) (reads_at s y) (fact_in (line_facts row s) k).names → component_in c x.after ≡ component_in d y.after

-- ---- a step as moves

-- which byte of what is put at a destination a component is, 0 for the first
abbrev pub offset_at : Destination → Component → Option ℕ
offset_at (Destination.Register r bytes) (Component.RegisterByte q j) =
    if reg_number r == reg_number q && (nat_le (first_of bytes) j && nat_lt j (first_of bytes + count_of Width.L bytes)) then Some (j - first_of bytes) else None
offset_at (Destination.Memory a n) (Component.MemoryByte x) = if nat_lt ((x + 2 ^ 32 - a % 2 ^ 32) % 2 ^ 32) n then Some ((x + 2 ^ 32 - a % 2 ^ 32) % 2 ^ 32) else None
offset_at (Destination.Flag f) (Component.FlagBit g) = if flag_number f == flag_number g then Some 0 else None
offset_at (Destination.Push n) (Component.ScratchByte j) = if nat_le (4 * n) j && nat_lt j (4 * n + 4) then Some (j - 4 * n) else None
offset_at destination c = None

-- what a component holds after a value is put where it is byte o, or elsewhere
abbrev pub put_at : Option ℕ → Component → ℕ → ℕ → ℕ
put_at None c v old = old
put_at (Some o) c v old = held c (nth_byte o v)

-- the same after each value from the k-th on is put at its destination
abbrev pub played : List Destination → ℕ → List ℕ → Component → ℕ → ℕ
played [] k vs c old = old
played (d ∷ ds) k vs c old = played ds (k + 1) vs c (put_at (offset_at d c) c (slice_index vs k) old)

-- a flag, or a byte that the state has
abbrev pub IsCell : Machine → Component → Type 0
IsCell m (Component.RegisterByte r j) = Unit {0}
IsCell m (Component.FlagBit f) = Unit {0}
IsCell m (Component.MemoryByte a) = (a < 2 ^ 32) × (list_any (λ r. covers r a) m.ranges ≡ true)
IsCell m (Component.ScratchByte j) = Unit {0}
IsCell m c = ⊥

-- A step that is no fault and isn't over is its moves played: values that were taken before anything was written are put, in
-- the row's order, at places that were fixed before anything was written.
abbrev pub PlaysMoves : List MicroOp → Inst → List ℕ → Machine → Machine → Type 0
PlaysMoves row i vs before after = (c : Component) → IsCell before c → component_in c after ≡ played (destinations_of i before row) 0 vs c (component_in c before)

-- ---- how a step ends

-- where a step goes on, or its fault
pub data Way : Type 0 where
  Goes : (at : ℕ) → Way
  Fails : Fault → Way
  Stops : Way

abbrev pub way_of : Stepped → Way
way_of (Stepped.Moved next) = Way.Goes next.at
way_of (Stepped.MovedOutside next) = Way.Goes next.at
way_of Stepped.Ended = Way.Stops
way_of (Stepped.Faulted fault) = Way.Fails fault

-- Two operands are reached alike: at one address with one owner, or otherwise equally well.
abbrev pub IsReachedAlike : Width → Bytes → Bool → Option InstArg → Option InstArg → Machine → Machine → Type 0
IsReachedAlike w bytes store (Some (InstArg.Address form k)) (Some (InstArg.Address other j)) m n = (address_of form m ≡ address_of other n) × (k ≡ j)
IsReachedAlike w bytes store x y m n = is_good_arg w bytes store x m ≡ is_good_arg w bytes store y n

-- an instruction in one state, and one of the same width in another
pub record Pair : Type 0 where
  pub first : Inst
  pub second : Inst
  pub here : Machine
  pub there : Machine

abbrev pub SiteAlike : Pair → Bool → Site → Type 0
SiteAlike x store (Site.Argument k bytes) = IsReachedAlike x.first.width bytes store (arg_at x.first k) (arg_at x.second k) x.here x.there
SiteAlike x store (Site.Pointed r) = reg_in r x.here ≡ reg_in r x.there
SiteAlike x store site = Unit {0}

abbrev pub InputAlike : Pair → Input → Type 0
InputAlike x (Input.Read site) = SiteAlike x false site
InputAlike x input = Unit {0}

abbrev pub TargetAlike : Pair → Target → Type 0
TargetAlike x (Target.Site site) = SiteAlike x true site
TargetAlike x (Target.Touch k) = SiteAlike x false (Site.Argument k Bytes.Whole) × SiteAlike x true (Site.Argument k Bytes.Whole)
TargetAlike x target = Unit {0}

-- the accesses of a row are at the same addresses
abbrev pub AddressesAlike : Pair → List MicroOp → Type 0
AddressesAlike x [] = Unit {0}
AddressesAlike x (op ∷ ops) = InputAlike x op.x × (InputAlike x op.y × (InputAlike x op.z × (TargetAlike x op.target × AddressesAlike x ops)))

-- the two states have the same ranges, scratch and position, whatever is in them
pub record IsAlike (x : Pair) : Type 0 where
  pub width : x.first.width ≡ x.second.width
  pub layouts : layouts_of x.here.ranges ≡ layouts_of x.there.ranges
  pub depth : x.here.scratch_top ≡ x.there.scratch_top
  pub esp : x.here.esp ≡ x.there.esp
  pub at : x.here.at ≡ x.there.at

-- A step's end is a test of addresses before the step, then of the values that it uses: where these agree, two steps go on at
-- one position or fail in one way.
abbrev pub EndsAlike : List MicroOp → (Input → Option ℕ) → Type 0
EndsAlike row known = (x : Pair) (goal choice choice' : ℕ) (words words' : List ℕ) → IsAlike x → AddressesAlike x row
    → Knows known (read_in x.first choice words x.here) → Knows known (read_in x.second choice' words' x.there)
    → AgreesOn x.first.width (read_in x.first choice words x.here) (read_in x.second choice' words' x.there) (names_where is_control row 0 (facts_of x.first.width known row) 0)
    → way_of (row_ended row x.first goal choice words x.here) ≡ way_of (row_ended row x.second goal choice' words' x.there)

-- A call that steps an instruction by a row obeys the laws, wherever the line is that the instruction comes from.
pub record ObeysLaws (row : List MicroOp) (i : Inst) (goal choice : ℕ) (words : List ℕ) (before after : Machine) : Type 0 where
  pub changes : (p : Placement) (s : Sym) → i ≡ inst_under p s → FitsTargets p s row → ChangesOnly (IsToldByOne p before (writes_of row s)) before after
  pub values : (p : Placement) (s : Sym) → i ≡ inst_under p s → IsMachine before → FitsTargets p s row → is_over row (values_of i.width (read_in i choice words before) row) ≡ false
      → IsAfter (row_ended row i goal choice words before) after → LeavesValues p s row (values_of i.width (read_in i choice words before) row) before after
  pub copies : (p : Placement) (s : Sym) → i ≡ inst_under p s → IsMachine before → FitsTargets p s row → FitsCopies p s row → is_over row (values_of i.width (read_in i choice words before) row) ≡ false
      → IsAfter (row_ended row i goal choice words before) after → LeavesCopies p s row before after
  pub moves : IsMachine before → is_over row (values_of i.width (read_in i choice words before) row) ≡ false → IsAfter (row_ended row i goal choice words before) after
      → PlaysMoves row i (values_of i.width (read_in i choice words before) row) before after

-- The laws of what a line names: with a row's values, and with two placements.
pub record DecidesLine (row : List MicroOp) (s : Sym) : Type 0 where
  pub names : NamesDecide row s.width (known_in s)
  pub placed : (p : Placement) → IsPlaced p s → StepsAsLine p s
  pub ends : EndsAlike row (known_in s)
  pub writes : length s.args ≤ 3 → (x y : Stand) → IsDone row s x → IsDone row s y → AgreesOnWrites row s x y
