-- Which layout the moves of a block's instructions fit.
use Rattle.std.specs.Prelude.{ℕ, ◌<◌, ◌≤◌, ◌&&◌, Bool, IsTrue, List, length, if◌then◌else◌}
use Rattle.std.specs.List.{list_all}
use Rattle.asm_core.specs.declared.sym.Sym.{Sym}
use Rattle.asm_core.specs.declared.shape.Shape.{Shape}
use Rattle.asm_core.specs.declared.interface.Interface.{Interface}
use Rattle.blk_deps.specs.Stack.{pushes}
use Rattle.blk_deps.specs.Fits.{has_slot, fits_name, fits_put, FitsLayout}
use Rattle.blk_deps.specs.LineMoves.{IsLineMoves}
use Rattle.blk_deps.specs.declared.layout.Layout.{Layout}
use Rattle.blk_deps.specs.declared.line.LineMoves.{LineMoves}
use Rattle.blk_deps.specs.declared.step.Read.{Read}
use Rattle.blk_deps.specs.declared.step.Put.{Put}

-- ---- the moves of an instruction

abbrev pub fits_read : Layout → Read → Bool
fits_read l (Read.Copy u) = has_slot l u
fits_read l (Read.Compute of) = list_all (fits_name l) of

-- the answer to `FitsLayout`
abbrev pub fits : Layout → List Read → List Put → Bool
fits l reads puts = list_all (fits_read l) reads && list_all (fits_put l (length reads)) puts

abbrev pub fits_moves : Layout → LineMoves → Bool
fits_moves l m = fits l m.reads m.puts

abbrev pub FitsMoves : Layout → LineMoves → Type 0
FitsMoves l m = FitsLayout l m.reads m.puts

-- ---- the layouts of an interface

-- without cells of pushed words, and with those of 16
abbrev pub plain_layout : Interface → Layout
plain_layout i = record { operands = length i.operands; words = 0 }

abbrev pub stack_layout : Interface → Layout
stack_layout i = record { operands = length i.operands; words = 16 }

-- pushed words have cells where some instruction moves them
abbrev pub layout_for : Interface → List LineMoves → Layout
layout_for i moves = if list_all (fits_moves (plain_layout i)) moves then plain_layout i else stack_layout i

-- These are the moves of an instruction, before which no more words are pushed than can be.
pub record IsMoved (i : Interface) (s : Shape) (m : LineMoves) : Type 0 where
  pub line : Sym
  pub depth : ℕ
  pub few : depth ≤ 16
  pub room : IsTrue (pushes line) → depth < 16
  pub moves : IsLineMoves i s depth line m
