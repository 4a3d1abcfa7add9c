use Rattle.std.proofs.Common.{◌≡◌, drop}
use Rattle.asm_core.specs.Entries.{names_where}
use Rattle.x86_rows.specs.Purpose.{targets_of}
use Rattle.x86_rows.proofs.entries.names_where.Given as goal

abbrev pub invariant-loop-k : goal.invariant-loop-k
invariant-loop-k l = names_where (targets_of l.purpose) l.row 0 l.facts 0 ≡ names_where (targets_of l.purpose) (drop l.k l.row) l.k l.facts l.names
