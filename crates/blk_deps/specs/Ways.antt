-- The ways through a block: nodes are its instructions, numbered from 0, and the end is their count. A conditional jump has two ways on;
-- any other instruction has one, which stands for both.
use Rattle.std.specs.Prelude.{◌≡◌, ℕ, zero, suc, ◌+◌, ◌<◌, ◌≤◌, ◌==◌, List, length, Option, None, Some, slice_get, slice_index, if◌then◌else◌}
use Rattle.asm_core.specs.declared.sym.Sym.{Sym}
use Rattle.asm_core.specs.declared.lines.Graph.{Graph}
use Rattle.blk_flow.specs.Graph.{always_jumps}

abbrev pub size_of : Graph → ℕ
size_of g = length g.insts

abbrev pub next_of : Graph → ℕ → Option Sym → ℕ
next_of g n None = n + 1
next_of g n (Some line) = if always_jumps line.op then slice_index g.goals n else n + 1

-- where instruction n goes on: the next one, or the goal of `jmp`; and the goal, which is the next one where it doesn't jump
abbrev pub goes : Graph → ℕ → ℕ → ℕ
goes g n zero = next_of g n (slice_get g.insts n)
goes g n (suc way) = slice_index g.goals n

-- how reports number instruction n, and the end
abbrev pub line_number : Graph → ℕ → ℕ
line_number g n = if n == size_of g then 513 else n + 1

-- each instruction has a goal, which is an instruction or the end; there are at most 512 instructions
pub record IsGraph (g : Graph) : Type 0 where
  pub goals : length g.goals ≡ size_of g
  pub inside : (n : ℕ) → n < size_of g → slice_index g.goals n ≤ size_of g
  pub few : size_of g ≤ 512
