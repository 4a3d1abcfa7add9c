-- What is found in a block under all its live shapes: each rule that some shape and path break, once for each pair of cells, at its least line.
use Rattle.std.specs.Prelude.{◌≡◌, ◌⊎◌, ℕ, ◌+◌, ◌<◌, ◌≤◌, Bool, true, IsTrue, List, [], ◌∷◌, ◌++◌, map, length, Option, None, Some, slice_get, slice_index, if◌then◌else◌}
use Rattle.std.specs.List.{flat_map}
use Rattle.asm_core.specs.declared.flag.Flag.{Flag}
use Rattle.asm_core.specs.declared.sym.Sym.{Sym}
use Rattle.asm_core.specs.declared.lines.Graph.{Graph}
use Rattle.asm_core.specs.declared.shape.Shape.{Shape}
use Rattle.asm_core.specs.declared.interface.Interface.{Interface}
use Rattle.asm_core.specs.declared.finding.Rule.{Rule}
use Rattle.asm_core.specs.declared.finding.Cell.{Cell}
use Rattle.asm_core.specs.declared.finding.Finding.{Finding}
use Rattle.blk_deps.specs.declared.violation.Violation.{Violation}
use Rattle.dataflow.specs.Paths.{OnSomePath}
use Rattle.blk_deps.specs.Facts.{Facts, after_moves}
use Rattle.blk_deps.specs.Start.{at_entry, TellsSharing}
use Rattle.blk_deps.specs.Operands.{numbers_in}
use Rattle.blk_deps.specs.Line.{line_reads, line_puts}
use Rattle.blk_deps.specs.Ways.{size_of, goes, line_number}
use Rattle.blk_deps.specs.Stack.{BreaksStack, AreDepths}
use Rattle.blk_deps.specs.Rules.{registers, flags, breaks_at_line, breaks_at_end, breaks_u2}

-- ---- one shape

-- a block under one of the live shapes, with its depths and the places that may share a register
pub record Setting : Type 0 where
  pub interface : Interface
  pub live : List Shape
  pub shape : Shape
  pub graph : Graph
  pub depths : List ℕ
  pub shares : ℕ → ℕ → Bool

pub record IsSetting (x : Setting) : Type 0 where
  pub depths : AreDepths x.graph x.depths
  pub shares : TellsSharing x.interface x.shape x.shares

abbrev pub moved_by : Setting → ℕ → Option Sym → Facts → Facts
moved_by x n None facts = facts
moved_by x n (Some line) facts =
    let depth = slice_index x.depths n in
    after_moves x.shares (line_reads x.interface x.shape depth line) (line_puts x.interface x.shape depth line) facts

-- the facts behind instruction n, of those before it
abbrev pub facts_after : Setting → ℕ → Facts → Facts
facts_after x n = moved_by x n (slice_get x.graph.insts n)

abbrev pub start_of : Setting → Facts
start_of x = at_entry x.interface x.live x.shape

-- some path to node n shows facts of which the test is true
abbrev pub OnPath : Setting → ℕ → (Facts → Bool) → Type 0
OnPath x n test = OnSomePath (size_of x.graph) (goes x.graph) (start_of x) (facts_after x) n test

-- A rule is broken at a node: by facts of a path at an instruction or at the end, or by the text of an instruction alone.
pub data BreaksAt (x : Setting) (b : Violation) : ℕ → Type 0 where
  at_line : (n : ℕ) (line : Sym) → slice_get x.graph.insts n ≡ Some line
      → OnPath x n (breaks_at_line x.interface x.live x.shape (slice_index x.depths n) line b) → BreaksAt x b n
  at_end : OnPath x (size_of x.graph) (breaks_at_end x.interface x.shape b) → BreaksAt x b (size_of x.graph)
  by_text : (n : ℕ) (line : Sym) → slice_get x.graph.insts n ≡ Some line → b.rule ≡ Rule.U2 → b.other ≡ Cell.Nothing → IsTrue (breaks_u2 x.shares line b.cell) → BreaksAt x b n

-- ---- all live shapes

-- under the k-th of the live shapes, whose block is the k-th of the graphs, a rule is broken on that line of a report
pub record IsBroken (i : Interface) (live : List Shape) (graphs : List Graph) (b : Violation) (line : ℕ) : Type 0 where
  pub number : ℕ
  pub shape : Shape
  pub graph : Graph
  pub is_shape : slice_get live number ≡ Some shape
  pub is_graph : slice_get graphs number ≡ Some graph
  pub depths : List ℕ
  pub shares : ℕ → ℕ → Bool
  pub setting : IsSetting (record { interface = i; live = live; shape = shape; graph = graph; depths = depths; shares = shares })
  pub node : ℕ
  pub breaks : BreaksAt (record { interface = i; live = live; shape = shape; graph = graph; depths = depths; shares = shares }) b node
  pub is_line : line ≡ line_number graph node

-- a rule on the stack is broken under one of the shapes
pub record IsStackBroken (graphs : List Graph) (b : Violation) (line : ℕ) : Type 0 where
  pub number : ℕ
  pub graph : Graph
  pub is_graph : slice_get graphs number ≡ Some graph
  pub node : ℕ
  pub breaks : BreaksStack graph b.rule node
  pub is_line : line ≡ line_number graph node

-- ---- lists

abbrev pub alone : Rule → Cell → Violation
alone rule cell = record { rule = rule; cell = cell; other = Cell.Nothing }

abbrev pub registers_alone : Rule → List Violation
registers_alone rule = map (λ r. alone rule (Cell.Reg r)) registers

abbrev pub operands_alone : Rule → Interface → List Violation
operands_alone rule i = map (λ k. alone rule (Cell.Operand k)) (numbers_in i)

abbrev pub flags_alone : Rule → List Violation
flags_alone rule = map (λ f. alone rule (Cell.Flag f)) flags

-- the names of places
abbrev pub place_names : Interface → List Cell
place_names i = map Cell.Reg registers ++ map Cell.Operand (numbers_in i)

abbrev pub pairs_of : Rule → List Cell → List Violation
pairs_of rule cells = flat_map (λ x. map (λ y. record { rule = rule; cell = x; other = y }) cells) cells

-- what may be broken, in the order of reports: by rule, then by cell, then by the other cell
abbrev pub violations_of : Interface → List Violation
violations_of i =
    registers_alone Rule.W1
    ++ operands_alone Rule.W2 i
    ++ alone Rule.W3 Cell.Cc ∷ []
    ++ alone Rule.W4 (Cell.Flag Flag.Df) ∷ []
    ++ alone Rule.M1 Cell.Memory ∷ []
    ++ operands_alone Rule.M2 i
    ++ registers_alone Rule.R1 ++ flags_alone Rule.R1
    ++ operands_alone Rule.R2 i
    ++ operands_alone Rule.R3 i ++ alone Rule.R3 Cell.Nothing ∷ []
    ++ operands_alone Rule.U2 i
    ++ pairs_of Rule.U3 (place_names i)
    ++ operands_alone Rule.U4 i

abbrev pub stack_violations : List Violation
stack_violations = alone Rule.S1 Cell.Nothing ∷ alone Rule.S2 Cell.Nothing ∷ alone Rule.S3 Cell.Nothing ∷ []

-- the line is one, and no line before it is
pub record IsLeast (Broken : ℕ → Type 0) (line : ℕ) : Type 0 where
  pub broken : Broken line
  pub least : (earlier : ℕ) → earlier < line → Broken earlier → ⊥

abbrev pub finding_of : Violation → ℕ → Finding
finding_of b line = record { rule = b.rule; line = line; cell = b.cell; other = b.other }

-- The findings are these breaks in their order, each that is broken at all once, at its least line.
unfoldable pub AreFindings : (Violation → ℕ → Type 0) → List Violation → List Finding → Type 0
AreFindings Broken [] found = found ≡ []
AreFindings Broken (b ∷ bs) found =
    ((line : ℕ) × IsLeast (Broken b) line × (rest : List Finding) × (found ≡ finding_of b line ∷ rest) × AreFindings Broken bs rest)
    ⊎ (((line : ℕ) → Broken b line → ⊥) × AreFindings Broken bs found)
