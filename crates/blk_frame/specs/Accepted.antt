-- Facts of which no rule is broken. This project's own.
use Rattle.std.specs.Prelude.{◌≡◌, ℕ, ◌&&◌, Bool, true, false, List, Some, slice_get}
use Rattle.asm_core.specs.Lists.{IsMember}
use Rattle.asm_core.specs.declared.lines.Graph.{Graph}
use Rattle.asm_core.specs.declared.sym.Sym.{Sym}
use Rattle.asm_core.specs.declared.shape.Shape.{Shape}
use Rattle.asm_core.specs.declared.interface.Interface.{Interface}
use Rattle.asm_core.specs.declared.finding.Rule.{Rule}
use Rattle.blk_deps.specs.Facts.{Facts}
use Rattle.dataflow.specs.Paths.{facts_along}
use Rattle.blk_deps.specs.Findings.{Setting, IsSetting, IsBroken, start_of, facts_after, violations_of}
use Rattle.blk_deps.specs.Rules.{breaks_at_line, breaks_at_end}
use Rattle.blk_deps.specs.declared.violation.Violation.{Violation}

-- The rules that a verdict asks: each. The must-fail edits plant verdicts that leave one out.
abbrev pub is_asked : Rule → Bool
is_asked rule = true

-- no rule of paths is broken on any line of a report
pub record NoneBroken (i : Interface) (live : List Shape) (graphs : List Graph) : Type 0 where
  pub each : (b : Violation) (line : ℕ) → IsMember b (violations_of i) → is_asked b.rule ≡ true
      → IsBroken i live graphs b line → ⊥

-- facts at the end break no rule
pub record EndsSound (i : Interface) (s : Shape) (facts : Facts) : Type 0 where
  pub each : (b : Violation) → IsMember b (violations_of i) → (is_asked b.rule && breaks_at_end i s b facts) ≡ false

-- facts before an instruction break none
pub record PassesSound (i : Interface) (live : List Shape) (s : Shape) (depth : ℕ) (line : Sym)
    (facts : Facts) : Type 0 where
  pub each : (b : Violation) → IsMember b (violations_of i)
      → (is_asked b.rule && breaks_at_line i live s depth line b facts) ≡ false

-- the setting is that of the shape and block of that number
pub record IsShapeOf (x : Setting) (graphs : List Graph) (number : ℕ) : Type 0 where
  pub is_shape : slice_get x.live number ≡ Some x.shape
  pub is_graph : slice_get graphs number ≡ Some x.graph
  pub setting : IsSetting x

-- the facts where a path ends
abbrev pub facts_on : Setting → List ℕ → Facts
facts_on x path = facts_along (start_of x) (facts_after x) path
