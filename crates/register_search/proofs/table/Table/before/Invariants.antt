use Rattle.std.proofs.Common.{◌≡◌, ℕ, ◌<◌, ◌&&◌, slice_index_or, false}
use Rattle.register_search.specs.Table.{holds, some_below, leads_by}
use Rattle.register_search.proofs.table.Table.before.Given as goal

abbrev pub invariant-loop-choice : goal.invariant-loop-choice
invariant-loop-choice l = (set : ℕ) → set < 128 → holds l.table set ≡ some_below l.choice (λ choice. slice_index_or l.fn.choices choice false && leads_by choice (holds l.fn.self) set)
