use Rattle.std.proofs.Common.{◌≡◌, ◌++◌, drop}
use Rattle.x86_rows.specs.Entered.{all_named}
use Rattle.x86_rows.proofs.line_entries.all_named.Given as goal

abbrev pub invariant-loop-n : goal.invariant-loop-n
invariant-loop-n l = all_named l.s l.facts l.row 0 ≡ l.found ++ all_named l.s l.facts (drop l.n l.row) l.n
