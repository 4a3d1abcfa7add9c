-- What the facts of a path say of a run along it: at the entry, behind each step, and of registers, flags and
-- addresses wherever it stands.
use Rattle.std.specs.Prelude.{◌≡◌, ℕ, ◌+◌, ◌<◌, ◌≤◌, ◌^◌, Bool, true, false, All, List, ◌∷◌, Some, slice_get, slice_index}
use Rattle.asm_core.specs.Reg.{reg_number}
use Rattle.asm_core.specs.Flag.{flag_number, flag_in}
use Rattle.asm_core.specs.Machine.{reg_in}
use Rattle.asm_core.specs.Memory.{address_of}
use Rattle.asm_core.specs.Placement.{spot_of, IsAllowed}
use Rattle.asm_core.specs.RowLaws.{IsPlaced, FitsCopies}
use Rattle.asm_core.specs.Rows.{line_row}
use Rattle.asm_core.specs.Steps.{Stand}
use Rattle.asm_core.specs.WellFormed.{IsInterface}
use Rattle.asm_core.specs.declared.reg.Reg.{Reg}
use Rattle.asm_core.specs.declared.flag.Flag.{Flag}
use Rattle.asm_core.specs.declared.inst.Repeat.{Repeat}
use Rattle.asm_core.specs.declared.sym.Sym.{Sym}
use Rattle.asm_core.specs.declared.shape.Shape.{Shape}
use Rattle.asm_core.specs.declared.interface.Interface.{Interface}
use Rattle.asm_core.specs.declared.placement.Form.{Form}
use Rattle.asm_core.specs.declared.placement.Spot.{Spot}
use Rattle.asm_core.specs.declared.placement.Placement.{Placement}
use Rattle.asm_core.specs.declared.machine.Machine.{Machine}
use Rattle.x86_table.specs.TableLaws.{IsStepped, IsPlain}
use Rattle.blk_deps.specs.Cells.{byte_cell, flag_cell}
use Rattle.blk_deps.specs.Facts.{Facts, after_moves}
use Rattle.asm_core.specs.Lists.{IsMember}
use Rattle.asm_core.specs.declared.sym.Arg.{Arg}
use Rattle.asm_core.specs.declared.row.Access.{Access}
use Rattle.asm_core.specs.declared.lines.Graph.{Graph}
use Rattle.dataflow.specs.Paths.{IsPathTo}
use Rattle.blk_deps.specs.Line.{line_reads, line_puts, accesses_in}
use Rattle.blk_deps.specs.Rules.{is_kept}
use Rattle.blk_deps.specs.Ways.{size_of, goes}
use Rattle.blk_deps.specs.Findings.{Setting, IsSetting}
use Rattle.blk_frame.specs.Accepted.{NoneBroken, EndsSound, PassesSound, IsShapeOf, facts_on}
use Rattle.blk_deps.specs.Operands.{is_place}
use Rattle.blk_deps.specs.Stack.{pushes, pops}
use Rattle.blk_deps.specs.Start.{at_entry, TellsSharing}
use Rattle.blk_deps.specs.declared.fact.Fact.TheVariants.{Overwrites}
use Rattle.blk_frame.specs.World.{Placed, World}
use Rattle.blk_frame.specs.Matches.{IsKept, Matches, IsBeside, HasTop}
use Rattle.blk_frame.specs.Shown.{Shows, placed_by, world_of}
use Rattle.blk_frame.specs.Lines.{IsOfShape}

-- the facts hold of a state, given the state of the entry
pub record Holds (x : Placed) (entry : Machine) (facts : Facts) (m : Machine) : Type 0 where
  pub world : World
  pub shows : Shows m world
  pub matches : Matches x (world_of x entry) facts world
  pub tops : HasTop x facts

-- A step that is no fault of a line of the table, which is one of the shape, with so many words pushed before it.
pub record IsTableStep (i : Interface) (s : Shape) (depth : ℕ) (line : Sym) (x : Stand) : Type 0 where
  pub interface : IsInterface i
  pub allowed : IsAllowed i s x.at
  pub placed : IsPlaced x.at line
  pub of_shape : IsOfShape i s line
  pub plain : IsPlain line
  pub stepped : IsStepped line x
  pub copies : FitsCopies x.at line (line_row line)
  pub at_depth : x.before.scratch_top ≡ depth
  pub few : depth ≤ 16
  pub room : pushes line ≡ true → depth < 16

-- two states whose registers hold numbers of 32 bits
pub record AreStates (entry m : Machine) : Type 0 where
  pub before : All (λ v. v < 2 ^ 32) entry.regs
  pub now : All (λ v. v < 2 ^ 32) m.regs

pub record FactsHold : Type 0 where
  pub start : (i : Interface) (live : List Shape) (s : Shape) (p : Placement) (m : Machine)
      → Holds (placed_by i s p) m (at_entry i live s) m
  pub step : (i : Interface) (s : Shape) (shares : ℕ → ℕ → Bool) (depth : ℕ) (line : Sym) (x : Stand)
      (entry : Machine) (facts : Facts)
      → TellsSharing i s shares → IsTableStep i s depth line x → Holds (placed_by i s x.at) entry facts x.before
      → Holds (placed_by i s x.at) entry (after_moves shares (line_reads i s depth line)
      (line_puts i s depth line) facts) x.after
  -- a line that neither pushes nor pops leaves the stack as it was
  pub stack : (i : Interface) (s : Shape) (depth : ℕ) (line : Sym) (x : Stand) → IsTableStep i s depth line x
      → pushes line ≡ false → pops line ≡ false
      → (x.after.scratch_top ≡ x.before.scratch_top) × (x.after.esp ≡ x.before.esp)
  -- what holds behind a repeated instruction holds behind each further turn of it
  pub turn : (i : Interface) (s : Shape) (shares : ℕ → ℕ → Bool) (depth : ℕ) (line : Sym) (x : Stand)
      (entry : Machine) (facts : Facts)
      → TellsSharing i s shares → IsTableStep i s depth line x → (line.repeat ≡ Repeat.No → ⊥)
      → Holds (placed_by i s x.at) entry (after_moves shares (line_reads i s depth line)
      (line_puts i s depth line) facts) x.before
      → Holds (placed_by i s x.at) entry (after_moves shares (line_reads i s depth line)
      (line_puts i s depth line) facts) x.after
  -- a register in which no place has lost its value is as at the entry
  pub registers : (i : Interface) (s : Shape) (p : Placement) (entry m : Machine) (facts : Facts) (r : Reg)
      → IsInterface i → AreStates entry m → Holds (placed_by i s p) entry facts m
      → ((b d : ℕ) → b < 4 → IsBeside (placed_by i s p) (byte_cell (reg_number r) b) d
      → IsKept (placed_by i s p) facts d) → reg_in r m ≡ reg_in r entry
  -- and so is a flag that hasn't
  pub flags : (i : Interface) (s : Shape) (p : Placement) (entry m : Machine) (facts : Facts) (f : Flag)
      → flag_number f < 6 → Holds (placed_by i s p) entry facts m
      → IsKept (placed_by i s p) facts (flag_cell f) → flag_in f m.flags ≡ flag_in f entry.flags
  -- the address of a memory operand that nothing overwrites is the entry's
  pub addresses : (i : Interface) (s : Shape) (p : Placement) (entry m : Machine) (facts : Facts) (k : ℕ)
      (form : Form) → IsInterface i → AreStates entry m
      → Holds (placed_by i s p) entry facts m → is_place i s (7 + k) ≡ true → spot_of p k ≡ Spot.Memory form
      → m.esp ≡ entry.esp
      → ((b d : ℕ) → b < 4 → d < 37 → is_place i s d ≡ true → facts (Overwrites d (byte_cell (7 + k) b)) ≡ false)
      → address_of form m ≡ address_of form entry
  -- where the end breaks no rule, each place that has to be as at the entry has its values
  pub kept : (i : Interface) (s : Shape) (p : Placement) (facts : Facts) (u b : ℕ) → u < 37 → b < 4
      → EndsSound i s facts
      → is_kept i s u ≡ true → IsKept (placed_by i s p) facts (byte_cell u b)
  -- where an instruction breaks no rule, nothing overwrites the address of a memory operand that it accesses
  pub reached : (i : Interface) (live : List Shape) (s : Shape) (depth : ℕ) (line : Sym) (facts : Facts) (a : Access)
      (k : ℕ)
      → IsInterface i → PassesSound i live s depth line facts → IsMember a (accesses_in line) → a.to ≡ Arg.Memory k
      → is_place i s (7 + k) ≡ true → (b d : ℕ) → b < 4 → d < 37 → is_place i s d ≡ true
      → facts (Overwrites d (byte_cell (7 + k) b)) ≡ false
  -- where no rule of paths is broken, the facts of each path break none
  pub passes : (x : Setting) (graphs : List Graph) (number : ℕ) → IsShapeOf x graphs number
      → NoneBroken x.interface x.live graphs
      → (path : List ℕ) (n : ℕ) (line : Sym) → slice_get x.graph.insts n ≡ Some line
      → IsPathTo (size_of x.graph) (goes x.graph) path n
      → PassesSound x.interface x.live x.shape (slice_index x.depths n) line (facts_on x path)
  pub ends : (x : Setting) (graphs : List Graph) (number : ℕ) → IsShapeOf x graphs number
      → NoneBroken x.interface x.live graphs
      → (path : List ℕ) → IsPathTo (size_of x.graph) (goes x.graph) path (size_of x.graph)
      → EndsSound x.interface x.shape (facts_on x path)
  -- so the facts of a run's own path hold of it: behind a step of the instruction at its end, and behind each
  -- further turn of that
  pub along : (x : Setting) (path : List ℕ) (n : ℕ) (line : Sym) (stand : Stand) (entry : Machine) → IsSetting x
      → slice_get x.graph.insts n ≡ Some line → IsTableStep x.interface x.shape (slice_index x.depths n) line stand
      → Holds (placed_by x.interface x.shape stand.at) entry (facts_on x path) stand.before
      → Holds (placed_by x.interface x.shape stand.at) entry (facts_on x (n ∷ path)) stand.after
  pub again : (x : Setting) (path : List ℕ) (n : ℕ) (line : Sym) (stand : Stand) (entry : Machine) → IsSetting x
      → slice_get x.graph.insts n ≡ Some line → IsTableStep x.interface x.shape (slice_index x.depths n) line stand
      → (line.repeat ≡ Repeat.No → ⊥)
      → Holds (placed_by x.interface x.shape stand.at) entry (facts_on x (n ∷ path)) stand.before
      → Holds (placed_by x.interface x.shape stand.at) entry (facts_on x (n ∷ path)) stand.after
