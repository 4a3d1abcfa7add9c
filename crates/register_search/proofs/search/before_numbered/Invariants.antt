use Rattle.std.proofs.Common.{◌≡◌, ℕ, ◌<◌, get_or}
use Rattle.register_search.specs.Table.{holds, all_below}
use Rattle.register_search.proofs.search.before_numbered.Given as goal

abbrev pub invariant-loop-table : goal.invariant-loop-table
invariant-loop-table l = (set : ℕ) → set < 128 → holds l.all set ≡ all_below l.table-index (λ n. holds (get_or l.table-items n (record { sets = 0 })) set)
