-- Each fact behind a basic block has one cause before it.
use Rattle.std.specs.Prelude.{ℕ, zero, suc, ◌+◌, Bool, Option, None, Some, slice_get, slice_index}
use Rattle.asm_core.specs.declared.sym.Sym.{Sym}
use Rattle.dataflow.specs.Cause.{HasOneCause}
use Rattle.dataflow.specs.Causes.{in_turn, unchanged}
use Rattle.blk_deps.specs.Line.{line_reads, line_puts}
use Rattle.blk_deps.specs.Ways.{size_of}
use Rattle.blk_deps.specs.Blocks.{first_of, count_of, facts_through, facts_behind}
use Rattle.blk_deps.specs.Findings.{Setting, moved_by, facts_after}
use Rattle.blk_deps.specs.FlowFacts.{setting_of}
use Rattle.blk_deps.specs.MoveLaws.{moves_law}
use Rattle.blk_deps.specs.declared.flow.Flow.{Flow}

pub after_law : (x : Setting) (n : ℕ) → HasOneCause (facts_after x n)
after_law x n = by (slice_get x.graph.insts n) where
  by : (line : Option Sym) → HasOneCause (moved_by x n line)
  by None = unchanged
  by (Some line) =
      let depth = slice_index x.depths n in
      moves_law x.shares (line_reads x.interface x.shape depth line) (line_puts x.interface x.shape depth line)

pub through_law : {F : Type 0} {after : ℕ → (F → Bool) → F → Bool} → ((n : ℕ) → HasOneCause (after n))
    → (first count : ℕ)
    → HasOneCause (facts_through after first count)
through_law each first zero = unchanged
through_law each first (suc count) = in_turn (through_law each first count) (each (first + count))

pub block_law : (x : Flow) (b : ℕ)
    → HasOneCause (facts_behind (size_of x.graph.now) x.blocks.now (facts_after (setting_of x)) b)
block_law x b =
    through_law (after_law (setting_of x)) (first_of (size_of x.graph.now) x.blocks.now b)
    (count_of (size_of x.graph.now) x.blocks.now b)
