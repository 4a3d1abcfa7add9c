use Rattle.std.proofs.Common.{◌≡◌, drop, slice_get}
use Rattle.std.specs.List.{filter_map}
use Rattle.asm_core.specs.Entries.{write_of}
use Rattle.x86_rows.proofs.entries.writes.Given as goal

abbrev pub invariant-loop-op : goal.invariant-loop-op
invariant-loop-op l = slice_get (filter_map (write_of l.s) l.row) l.fn.k ≡ slice_get (filter_map (write_of l.s) (drop l.op-index l.row)) l.left
