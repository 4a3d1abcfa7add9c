-- How the depths of a graph are found, and what is known of them.
use Rattle.std.specs.Prelude.{◌≡◌, ◌≢◌, ◌⊎◌, false, ℕ, ◌<◌, ◌≤◌, List, map, Bool, true, Option, None, Some, slice_get, slice_index}
use Rattle.asm_core.specs.declared.sym.Sym.{Sym}
use Rattle.asm_core.specs.declared.lines.Graph.{Graph}
use Rattle.asm_core.specs.declared.finding.Rule.{Rule}
use Rattle.asm_core.specs.declared.micro_op.Target.{Target}
use Rattle.dataflow.specs.Paths.{IsPathTo, IsOfAllPaths}
use Rattle.dataflow.specs.Working.{IsWorkFor, found_in}
use Rattle.blk_deps.specs.Ways.{size_of, goes, line_number}
use Rattle.blk_deps.specs.Stack.{pushes, pops, no_words, depths_after, HasDepth, BreaksStack}
use Rattle.blk_deps.specs.Findings.{IsLeast}
use Rattle.blk_deps.specs.Ground.{has_bit}
use Rattle.blk_deps.specs.declared.depth.Depth.{Depth}
use Rattle.blk_deps.specs.declared.effect.StackEffect.{StackEffect}
use Rattle.blk_deps.specs.declared.stack.Stack.{Stack}

abbrev pub effect_of : Sym → StackEffect
effect_of line = record { pushes = pushes line; pops = pops line }

-- a micro-operation with such a target changes how many words are pushed
abbrev pub moves_stack : Target → Bool
moves_stack Target.Push = true
moves_stack Target.Pop = true
moves_stack target = false

-- the depths whose bits a word has
abbrev pub depths_in : ℕ → Depth → Bool
depths_in word depth = has_bit word depth.0

-- two depths
pub record HasTwo (word : ℕ) : Type 0 where
  pub one : ℕ
  pub other : ℕ
  pub differ : one ≢ other
  pub has_one : has_bit word one ≡ true
  pub has_other : has_bit word other ≡ true

-- a depth above 0
pub record HasDeep (word : ℕ) : Type 0 where
  pub depth : ℕ
  pub deep : 0 < depth
  pub has : has_bit word depth ≡ true

abbrev pub depth_number : Depth → ℕ
depth_number depth = depth.0

-- what is found are the depths of all paths
pub record IsStack (g : Graph) (x : Stack) : Type 0 where
  pub effects : x.effects ≡ map effect_of g.insts
  pub work : IsWorkFor (size_of g) 1 x.work
  pub found : IsOfAllPaths (size_of g) (goes g) no_words (depths_after g) (found_in depth_number x.work)

-- a rule on the stack is broken on a line of a report
pub record IsBrokenOn (g : Graph) (rule : Rule) (line : ℕ) : Type 0 where
  pub node : ℕ
  pub breaks : BreaksStack g rule node
  pub is_line : line ≡ line_number g node

-- the least of the lines, if there is any
abbrev pub IsLeastOf : (ℕ → Type 0) → Option ℕ → Type 0
IsLeastOf Broken None = (line : ℕ) → Broken line → ⊥
IsLeastOf Broken (Some line) = IsLeast Broken line

-- so many words are pushed on some path to the node, or 0 where no path comes to it
abbrev pub IsDepthAt : Graph → ℕ → ℕ → Type 0
IsDepthAt g n d = HasDepth g n d ⊎ ((d ≡ 0) × ((depth : ℕ) → HasDepth g n depth → ⊥))

-- no rule on the stack is broken
pub record IsSound (g : Graph) : Type 0 where
  pub left : (n : ℕ) → BreaksStack g Rule.S1 n → ⊥
  pub two : (n : ℕ) → BreaksStack g Rule.S2 n → ⊥
  pub overrun : (n : ℕ) → BreaksStack g Rule.S3 n → ⊥

-- there is room for what is pushed, and something is there that is popped
pub record FitDepths (g : Graph) (depths : List ℕ) : Type 0 where
  pub few : (n : ℕ) → slice_index depths n ≤ 16
  pub push : (n : ℕ) (line : Sym) → slice_get g.insts n ≡ Some line → pushes line ≡ true → slice_index depths n < 16
  pub pop : (n : ℕ) (line : Sym) (path : List ℕ) → slice_get g.insts n ≡ Some line → pops line ≡ true
      → IsPathTo (size_of g) (goes g) path n → 0 < slice_index depths n
