use Rattle.std.proofs.Common.{◌≡◌, drop}
use Rattle.asm_core.specs.Entries.{row_access}
use Rattle.x86_rows.proofs.accesses.row_access.Given as goal

abbrev pub invariant-loop-op : goal.invariant-loop-op
invariant-loop-op l = row_access l.store l.width l.origin l.row ≡ row_access l.store l.width l.origin (drop l.op-index l.row)
