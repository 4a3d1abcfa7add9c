-- What is known at each stage of judging a statement.
use Rattle.std.specs.Prelude.{◌≡◌, ℕ, List, [], length, All, Option, None, Some, Ok, slice_get}
use Rattle.asm_core.specs.Shape.{shapes_of}
use Rattle.asm_core.specs.declared.shape.Shape.{Shape}
use Rattle.asm_core.specs.declared.statement.Statement.{Statement}
use Rattle.asm_core.specs.declared.interface.Interface.{Interface}
use Rattle.asm_core.specs.declared.lines.Graph.{Graph}
use Rattle.asm_core.specs.declared.lines.Lines.{Lines}
use Rattle.blk_deps.specs.Operands.{IsSmall}
use Rattle.blk_deps.specs.Ways.{IsGraph}
use Rattle.blk_check.specs.Judged.{AnyHasRoom, graph_under}
use Rattle.blk_check.specs.Readable.{AreLive, pieces_in, readings_under, first_unread, shape_findings}

-- there is room, these are the live shapes, and what is written only is small
pub record HasShapes (i : Interface) (live : List Shape) : Type 0 where
  pub room : AnyHasRoom i (shapes_of i)
  pub are_live : AreLive i (shapes_of i) live
  pub small : IsSmall i

-- the lines under the live shapes
pub record HasReadings (s : Statement) (i : Interface) (live : List Shape) (xs : List Lines) : Type 0 where
  pub shapes : HasShapes i live
  pub readings : readings_under i (pieces_in s.body) live ≡ Ok xs

-- each instruction is read, and the shapes agree on it
pub record Agrees (s : Statement) (i : Interface) (live : List Shape) (xs : List Lines) : Type 0 where
  pub has : HasReadings s i live xs
  pub read : first_unread xs ≡ None
  pub alike : shape_findings i live xs ≡ []

-- the block under the shape is that one
pub record IsBlockOf (s : Statement) (i : Interface) (shape : Shape) (g : Graph) : Type 0 where
  pub is_graph : IsGraph g
  pub under : graph_under i (pieces_in s.body) shape ≡ Some g

-- the blocks under the live shapes
pub record HasBlocks (s : Statement) (i : Interface) (live : List Shape) (gs : List Graph) : Type 0 where
  pub shapes : HasShapes i live
  pub count : length gs ≡ length live
  pub graphs : All IsGraph gs
  pub each : (k : ℕ) (shape : Shape) (g : Graph) → slice_get live k ≡ Some shape → slice_get gs k ≡ Some g → IsBlockOf s i shape g
