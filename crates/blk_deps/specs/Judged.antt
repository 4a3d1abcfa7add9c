-- What is known while the blocks of a statement are judged.
use Rattle.std.specs.Prelude.{◌≡◌, ℕ, ◌<◌, nat_lt, Bool, List, length, Option, None, Some, slice_get, slice_index, if◌then◌else◌}
use Rattle.asm_core.specs.declared.sym.Sym.{Sym}
use Rattle.asm_core.specs.declared.shape.Shape.{Shape}
use Rattle.asm_core.specs.declared.interface.Interface.{Interface}
use Rattle.asm_core.specs.declared.lines.Graph.{Graph}
use Rattle.asm_core.specs.declared.finding.Rule.{Rule}
use Rattle.blk_deps.specs.Ways.{size_of, line_number}
use Rattle.blk_deps.specs.StackTable.{IsStack, IsBrokenOn}
use Rattle.blk_deps.specs.LineMoves.{IsLineMoves}
use Rattle.blk_deps.specs.Findings.{Setting, IsSetting, BreaksAt}
use Rattle.blk_deps.specs.declared.context.Context.{Context}
use Rattle.blk_deps.specs.declared.line.LineMoves.{LineMoves}
use Rattle.blk_deps.specs.declared.stack.Stack.{Stack}
use Rattle.blk_deps.specs.declared.violation.Violation.{Violation}

-- ---- paths

-- a rule is broken on that line of a report, in this setting
pub record BreaksIn (x : Setting) (v : Violation) (line : ℕ) : Type 0 where
  pub node : ℕ
  pub breaks : BreaksAt x v node
  pub is_line : line ≡ line_number x.graph node

-- in some setting of the block under the shape, which is to say in each
pub record IsBrokenUnder (i : Interface) (live : List Shape) (s : Shape) (g : Graph) (v : Violation) (line : ℕ) : Type 0 where
  pub depths : List ℕ
  pub shares : ℕ → ℕ → Bool
  pub setting : IsSetting (record { interface = i; live = live; shape = s; graph = g; depths = depths; shares = shares })
  pub broken : BreaksIn (record { interface = i; live = live; shape = s; graph = g; depths = depths; shares = shares }) v line

-- under one of the first shapes, so many
pub record IsBrokenBelow (i : Interface) (live : List Shape) (graphs : List Graph) (count : ℕ) (v : Violation) (line : ℕ) : Type 0 where
  pub number : ℕ
  pub below : number < count
  pub shape : Shape
  pub graph : Graph
  pub is_shape : slice_get live number ≡ Some shape
  pub is_graph : slice_get graphs number ≡ Some graph
  pub broken : IsBrokenUnder i live shape graph v line

-- what each instruction of a block does, by the depths before them
pub record AreMovesOf (x : Context) (g : Graph) (depths : List ℕ) (moves : List LineMoves) : Type 0 where
  pub count : length moves ≡ size_of g
  pub each : (n : ℕ) (line : Sym) (m : LineMoves) → slice_get g.insts n ≡ Some line → slice_get moves n ≡ Some m
      → IsLineMoves x.interface.now x.shape.now (slice_index depths n) line m

-- the same of the first instructions, so many
pub record AreMovesTo (x : Context) (g : Graph) (depths : List ℕ) (n : ℕ) (moves : List LineMoves) : Type 0 where
  pub count : length moves ≡ n
  pub each : (k : ℕ) (line : Sym) (m : LineMoves) → slice_get g.insts k ≡ Some line → slice_get moves k ≡ Some m
      → IsLineMoves x.interface.now x.shape.now (slice_index depths k) line m

-- ---- the stack

abbrev pub lesser : Option ℕ → Option ℕ → Option ℕ
lesser None other = other
lesser (Some a) None = Some a
lesser (Some a) (Some b) = if nat_lt b a then Some b else Some a

-- the stacks are those of the blocks
pub record AreStacks (graphs : List Graph) (stacks : List Stack) : Type 0 where
  pub count : length stacks ≡ length graphs
  pub each : (k : ℕ) (g : Graph) (x : Stack) → slice_get graphs k ≡ Some g → slice_get stacks k ≡ Some x → IsStack g x

-- one of the first blocks, so many, breaks the rule on that line
pub record IsRuleBroken (graphs : List Graph) (count : ℕ) (rule : Rule) (line : ℕ) : Type 0 where
  pub number : ℕ
  pub below : number < count
  pub graph : Graph
  pub is_graph : slice_get graphs number ≡ Some graph
  pub broken : IsBrokenOn graph rule line
