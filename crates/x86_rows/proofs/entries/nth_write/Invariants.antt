use Rattle.std.proofs.Common.{◌≡◌, drop, slice_get}
use Rattle.asm_core.specs.Entries.{write_numbers}
use Rattle.x86_rows.proofs.entries.nth_write.Given as goal

abbrev pub invariant-loop-n : goal.invariant-loop-n
invariant-loop-n l = slice_get (write_numbers l.row 0) l.fn.k ≡ slice_get (write_numbers (drop l.n l.row) l.n) l.left
