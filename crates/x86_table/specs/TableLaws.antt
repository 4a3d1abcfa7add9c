-- What holds of the steps of the table's own lines, beside the laws of any row.
use Rattle.std.specs.Prelude.{◌≡◌, ◌⊎◌, ℕ, ◌≤◌, List, [], ◌∷◌, length, slice_get, Option, Some}
use Rattle.asm_core.specs.Entries.{writes_of}
use Rattle.asm_core.specs.Machine.{IsMachine}
use Rattle.asm_core.specs.MicroOps.{first_of, values_of, row_ended}
use Rattle.asm_core.specs.Reading.Placed.{inst_under}
use Rattle.asm_core.specs.RowLaws.{ChangesOnly, IsToldByOne, HasBytes, FitsTargets, byte_count, target_count, FitsCopies, LeavesValues, LeavesCopies}
use Rattle.asm_core.specs.Rows.{line_row, entry_row}
use Rattle.asm_core.specs.Steps.{IsAfter, Stand, reads_at, AgreesOnWrites}
use Rattle.asm_core.specs.declared.inst.Repeat.{Repeat}
use Rattle.asm_core.specs.declared.inst.Width.{Width}
use Rattle.asm_core.specs.declared.micro_op.Bytes.{Bytes}
use Rattle.asm_core.specs.declared.micro_op.Function.{Function}
use Rattle.asm_core.specs.declared.micro_op.Input.{Input}
use Rattle.asm_core.specs.declared.micro_op.Site.{Site}
use Rattle.asm_core.specs.declared.micro_op.Target.{Target}
use Rattle.asm_core.specs.declared.placement.Placement.{Placement}
use Rattle.asm_core.specs.declared.sym.Arg.{Arg}
use Rattle.asm_core.specs.declared.micro_op.MicroOp.{MicroOp}
use Rattle.asm_core.specs.declared.sym.Sym.{Sym}

-- the step of a line is no fault, be a repeated instruction over or not, on a machine that has the operands
pub record IsStepped (s : Sym) (x : Stand) : Type 0 where
  pub is_machine : IsMachine x.before
  pub fits : FitsTargets x.at s (line_row s)
  pub step : IsAfter (row_ended (line_row s) (inst_under x.at s) x.goal x.choice x.words x.before) x.after

-- A row tells a line's steps, be it the line's own row or not: only what its writes tell changes, its values are left there,
-- what a write names decides what is there afterwards, and copies are copied. Where a repeated instruction is over, what is
-- left is what stood there, so that two steps agree of which one is over, both or none.
pub record TellsSteps (s : Sym) (row : List MicroOp) : Type 0 where
  pub changes : (x : Stand) → IsStepped s x → ChangesOnly (IsToldByOne x.at x.before (writes_of row s)) x.before x.after
  pub values : (x : Stand) → IsStepped s x → LeavesValues x.at s row (values_of s.width (reads_at s x) row) x.before x.after
  pub writes : (x y : Stand) → IsStepped s x → IsStepped s y → AgreesOnWrites row s x y
  pub copies : (x : Stand) → IsStepped s x → FitsCopies x.at s (line_row s) → LeavesCopies x.at s row x.before x.after

-- a prefix that repeats stands before a string instruction alone, which has no operand
abbrev pub IsPlain : Sym → Type 0
IsPlain s = s.repeat ≡ Repeat.No ⊎ s.args ≡ []

-- An operand has the bytes that are read or written there, as it is written: a register by its name, and a number from its
-- lowest byte on.
abbrev pub HasArg : Width → Bytes → Option Arg → Type 0
HasArg w bytes (Some (Arg.Register place slice)) = HasBytes w slice bytes
HasArg w bytes (Some (Arg.Number n)) = first_of bytes ≡ 0
HasArg w bytes (Some (Arg.Hole k)) = first_of bytes ≡ 0
HasArg w bytes arg = Unit {0}

abbrev pub HasSite : Sym → Site → Type 0
HasSite s (Site.Argument k bytes) = HasArg s.width bytes (slice_get s.args k)
HasSite s site = Unit {0}

abbrev pub HasTarget : Sym → Target → Type 0
HasTarget s (Target.Site site) = HasSite s site
HasTarget s target = Unit {0}

-- what is copied has the bytes that are written, and what is set is a bit
abbrev pub HasInput : Sym → Function → Input → ℕ → Type 0
HasInput s Function.Copy (Input.Read site) count = HasSite s site × (count ≤ byte_count s.width site)
HasInput s Function.Copy Input.Top count = count ≤ 4
HasInput s Function.Set (Input.Number n) count = n ≤ 1
HasInput s f x count = Unit {0}

-- a line's operands have the bytes that a row writes and copies
abbrev pub HasOperands : Sym → List MicroOp → Type 0
HasOperands s [] = Unit {0}
HasOperands s (op ∷ ops) = HasTarget s op.target × (HasInput s op.function op.x (target_count s.width op.target) × HasOperands s ops)

-- A line's row tells its steps, and so does the row that tells its entries, where that is another one.
pub record ObeysTable : Type 0 where
  pub lines : (s : Sym) → length s.args ≤ 3 → TellsSteps s (line_row s)
  pub entries : (s : Sym) → length s.args ≤ 3 → IsPlain s → TellsSteps s (entry_row s)
  -- what a line as it is written has, it has at each placement
  pub fits : (s : Sym) (row : List MicroOp) → HasOperands s row → (p : Placement) → FitsTargets p s row × FitsCopies p s row
