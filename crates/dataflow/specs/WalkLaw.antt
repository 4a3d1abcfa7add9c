-- The marks that walk have one cause.
use Rattle.std.specs.Prelude.{ℕ, zero, suc, ◌==◌, nat_lt, Bool}
use Rattle.dataflow.specs.Cause.{IsSingle, HasOneCause}
use Rattle.dataflow.specs.Walk.{walk_after, moved}
use Rattle.dataflow.specs.Causes.{unchanged, never, one_fact, chosen}

moved_single : (cell : ℕ) → IsSingle (λ (marks : ℕ → Bool). moved marks cell)
moved_single zero = never
moved_single (suc cell) = chosen (nat_lt cell 2) (one_fact cell) never

pub walk_law : (node : ℕ) → HasOneCause (walk_after node)
walk_law zero = unchanged
walk_law (suc zero) = record { each = moved_single }
walk_law (suc (suc node)) = record { each = λ cell. chosen (cell == 2) never (one_fact cell) }
