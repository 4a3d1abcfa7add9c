-- The facts of a block under a shape, from basic block to basic block.
use Rattle.std.specs.Prelude.{◌≡◌, ◌⊎◌, ◌↔◌, ℕ, ◌+◌, ◌*◌, ◌<◌, ◌≤◌, ◌==◌, ◌&&◌, nat_lt, Bool, true, false, List, [], ◌∷◌, length, Some, slice_get, slice_index}
use Rattle.asm_core.specs.declared.sym.Sym.{Sym}
use Rattle.dataflow.specs.Cause.{IsSingle}
use Rattle.dataflow.specs.Working.{row_in}
use Rattle.dataflow.specs.declared.work.Work.{Work}
use Rattle.blk_deps.specs.Facts.{Facts}
use Rattle.blk_deps.specs.Ways.{IsGraph, size_of, goes}
use Rattle.blk_deps.specs.Line.{line_reads, line_puts}
use Rattle.blk_deps.specs.Layout.{IsLayout, places_in, block_words, shown}
use Rattle.blk_deps.specs.Fits.{FitsLayout, IsSmall}
use Rattle.blk_deps.specs.Ground.{has_bit, IsContext}
use Rattle.blk_deps.specs.Blocks.{AreBlocks, first_of, count_of, facts_through}
use Rattle.blk_deps.specs.Findings.{Setting, facts_after, OnPath}
use Rattle.blk_deps.specs.declared.blocks.BasicBlock.{BasicBlock}
use Rattle.blk_deps.specs.declared.layout.Layout.{Layout}
use Rattle.blk_deps.specs.declared.context.Context.{Context}
use Rattle.blk_deps.specs.declared.line.LineMoves.{LineMoves}
use Rattle.blk_deps.specs.declared.flow.Flow.{Flow}

-- the places that share a register, by words of bits
abbrev pub sharing_in : Layout → List ℕ → ℕ → ℕ → Bool
sharing_in l sharers p q = nat_lt p (places_in l) && (nat_lt q (places_in l) && has_bit (slice_index sharers p) q)

-- the setting of a flow
abbrev pub setting_of : Flow → Setting
setting_of x = record {
  interface = x.context.now.interface.now;
  live = x.context.now.live.now;
  shape = x.context.now.shape.now;
  graph = x.graph.now;
  depths = x.depths.now;
  shares = sharing_in x.layout.now x.sharers.now;
}

-- what an instruction does, with so many words pushed, in words that a layout has
pub record IsMoving (x : Context) (l : Layout) (depth : ℕ) (line : Sym) (moves : LineMoves) : Type 0 where
  pub reads : moves.reads ≡ line_reads x.interface.now x.shape.now depth line
  pub puts : moves.puts ≡ line_puts x.interface.now x.shape.now depth line
  pub fits : FitsLayout l moves.reads moves.puts

-- what each instruction does is told
pub record AreMoves (x : Flow) : Type 0 where
  pub count : length x.moves.now ≡ size_of x.graph.now
  pub each : (n : ℕ) (line : Sym) (moves : LineMoves) → slice_get x.graph.now.insts n ≡ Some line
      → slice_get x.moves.now n ≡ Some moves
      → IsMoving x.context.now x.layout.now (slice_index x.depths.now n) line moves

pub record IsFlow (x : Flow) : Type 0 where
  pub graph : IsGraph x.graph.now
  pub layout : IsLayout x.layout.now
  pub operands : x.layout.now.operands ≡ length x.context.now.interface.now.operands
  pub context : IsContext x.context.now
  pub small : IsSmall x.context.now
  pub sharers : length x.sharers.now ≡ places_in x.layout.now
  pub moves : AreMoves x
  pub blocks : AreBlocks (size_of x.graph.now) (goes x.graph.now) x.blocks.now

-- there are words for as many hands as any instruction has
pub record HaveHands (x : Flow) (hands : List ℕ) : Type 0 where
  pub each : (n : ℕ) (moves : LineMoves) → slice_get x.moves.now n ≡ Some moves
      → length moves.reads * block_words x.layout.now ≤ length hands

-- node c of block b, or the end
abbrev pub IsInBlock : ℕ → List BasicBlock → ℕ → ℕ → Type 0
IsInBlock size blocks b c = (c < count_of size blocks b) ⊎ ((b ≡ length blocks) × (c ≡ 0))

-- one block alone, which goes on at the end
abbrev pub is_straight : List BasicBlock → Bool
is_straight (only ∷ []) = only.next == 1 && only.goal == 1
is_straight blocks = false

-- From what is found at its head the nodes of a block are reached: a test that one fact makes true is true of some path
-- to a node exactly where it is true of that, moved by the instructions of the block before the node.
pub record ShowPaths (x : Flow) (found : ℕ → Facts) : Type 0 where
  pub each : (b c : ℕ) (test : Facts → Bool) → IsInBlock (size_of x.graph.now) x.blocks.now b c → IsSingle test
      → (test (facts_through (facts_after (setting_of x)) (first_of (size_of x.graph.now) x.blocks.now b) c
      (found b)) ≡ true)
      ↔ OnPath (setting_of x) (first_of (size_of x.graph.now) x.blocks.now b + c) test

-- so do the rows
abbrev pub ShowsPaths : Flow → Work → Type 0
ShowsPaths x work = ShowPaths x (λ b. shown x.layout.now (row_in work b))
