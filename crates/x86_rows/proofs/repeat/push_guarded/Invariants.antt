use Rattle.std.proofs.Common.{◌≡◌, ◌+◌, ◌≤◌, ◌++◌, length, drop}
use Rattle.asm_core.specs.RowTerms.{guarded}
use Rattle.x86_rows.proofs.repeat.push_guarded.Given as goal

abbrev pub invariant-loop-k : goal.invariant-loop-k
invariant-loop-k l = (l.fn.made.items ++ guarded l.turn 0 l.row ≡ l.made.items ++ guarded l.turn l.k (drop l.k l.row)) × (length l.made.items ≤ length l.fn.made.items + l.k)
