use Rattle.std.proofs.Common.{◌≡◌, ◌++◌, drop}
use Rattle.std.specs.List.{filter_map}
use Rattle.asm_core.specs.Entries.{write_of, writes_of}
use Rattle.x86_rows.proofs.line_entries.writes.Given as goal

abbrev pub invariant-loop-op : goal.invariant-loop-op
invariant-loop-op l = writes_of l.row l.s ≡ l.found ++ filter_map (write_of l.s) (drop l.op-index l.row)
