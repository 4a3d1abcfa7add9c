-- Lines of a shape under a placement of it.
use Rattle.std.specs.Prelude.{◌≡◌, ℕ, ◌+◌, ◌<◌, ◌≤◌, true, List, [], ◌∷◌, ◌++◌, map, Option, None, Some, slice_get}
use Rattle.std.specs.List.{range_with_len}
use Rattle.asm_core.specs.RowLaws.{Component, component_in, written_byte, IsPlaced, ChangesOnly, IsToldByOne, LeavesCopies}
use Rattle.asm_core.specs.Rows.{entry_row}
use Rattle.asm_core.specs.WellFormed.{IsInterface}
use Rattle.asm_core.specs.declared.sym.Place.{Place}
use Rattle.asm_core.specs.declared.sym.Arg.{Arg}
use Rattle.asm_core.specs.declared.sym.Sym.{Sym}
use Rattle.asm_core.specs.declared.row.Write.{Write}
use Rattle.asm_core.specs.declared.micro_op.Site.{Site}
use Rattle.asm_core.specs.declared.micro_op.Target.{Target}
use Rattle.asm_core.specs.declared.micro_op.Function.{Function}
use Rattle.asm_core.specs.declared.micro_op.MicroOp.{MicroOp}
use Rattle.asm_core.specs.declared.shape.Shape.{Shape}
use Rattle.asm_core.specs.declared.interface.Interface.{Interface}
use Rattle.asm_core.specs.declared.placement.Placement.{Placement}
use Rattle.asm_core.specs.declared.machine.Machine.{Machine}
use Rattle.blk_deps.specs.Cells.{place_number}
use Rattle.blk_deps.specs.Operands.{is_place}
use Rattle.blk_deps.specs.Line.{writes_in, read_for}
use Rattle.blk_deps.specs.declared.step.Read.{Read}
use Rattle.blk_frame.specs.World.{Placed, World, value_in}

abbrev pub NamesPlace : Interface → Shape → Option Place → Type 0
NamesPlace i s None = Unit {0}
NamesPlace i s (Some place) = is_place i s (place_number place) ≡ true

abbrev pub index_of : Option (Place × ℕ) → Option Place
index_of None = None
index_of (Some x) = Some x.0

-- the places that an operand names are places of the shape
abbrev pub NamesPlaces : Interface → Shape → Arg → Type 0
NamesPlaces i s (Arg.Register place slice) = is_place i s (place_number place) ≡ true
NamesPlaces i s (Arg.Memory k) = is_place i s (7 + k) ≡ true
NamesPlaces i s (Arg.Address disp base index) = NamesPlace i s base × NamesPlace i s (index_of index)
NamesPlaces i s arg = Unit {0}

-- so do all operands of the line
pub record IsOfShape (i : Interface) (s : Shape) (line : Sym) : Type 0 where
  pub each : (k : ℕ) (arg : Arg) → slice_get line.args k ≡ Some arg → NamesPlaces i s arg

-- ---- what is in the hands of a step

-- what the step leaves where something is written
abbrev pub left_at : Machine → Option Component → ℕ
left_at after None = 0
left_at after (Some c) = component_in c after

abbrev pub hand_value : Placed → World → ℕ → Read → ℕ
hand_value x w left (Read.Copy u) = value_in x u w
hand_value x w left (Read.Compute of) = left

module _ (i : Interface) (s : Shape) (p : Placement) (x : Placed) (depth : ℕ) (line : Sym) (before after : Machine)
    (w : World) where
  -- a copy is what the cell holds, another value is what the step leaves
  abbrev pub hand_for : ℕ → Write → ℕ → ℕ
  hand_for k wr n = hand_value x w (left_at after (written_byte p before wr.to (wr.first + n)))
      (read_for i s depth line k wr.by n)

  abbrev pub hands_from : ℕ → List Write → List ℕ
  hands_from k [] = []
  hands_from k (wr ∷ wrs) = map (hand_for k wr) (range_with_len 0 wr.count) ++ hands_from (k + 1) wrs

  abbrev pub hands_of : List ℕ
  hands_of = hands_from 0 (writes_in line) ++ 0 ∷ 0 ∷ []

-- no flag is a copy
abbrev pub CopiesNoFlag : Function → Target → Type 0
CopiesNoFlag Function.Copy (Target.Site (Site.Flag f)) = ⊥
CopiesNoFlag f target = Unit {0}

-- A step of a placed line of a shape that is no fault: what it changes and copies is what the line's entries tell.
pub record IsStepOfLine (i : Interface) (s : Shape) (p : Placement) (depth : ℕ) (line : Sym)
    (before after : Machine) : Type 0 where
  pub interface : IsInterface i
  pub placed : IsPlaced p line
  pub of_shape : IsOfShape i s line
  pub at_depth : before.scratch_top ≡ depth
  pub few : depth ≤ 16
  pub room : (k : ℕ) (op : MicroOp) → slice_get (entry_row line) k ≡ Some op → op.target ≡ Target.Push → depth < 16
  pub plain : (k : ℕ) (op : MicroOp) → slice_get (entry_row line) k ≡ Some op → CopiesNoFlag op.function op.target
  pub changes : ChangesOnly (IsToldByOne p before (writes_in line)) before after
  pub copies : LeavesCopies p line (entry_row line) before after
