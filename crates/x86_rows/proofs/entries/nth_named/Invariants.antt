use Rattle.std.proofs.Common.{◌≡◌, drop, slice_get}
use Rattle.std.specs.List.{filter}
use Rattle.asm_core.specs.Entries.{has_name}
use Rattle.x86_rows.proofs.entries.nth_named.Given as goal

abbrev pub invariant-loop-origin : goal.invariant-loop-origin
invariant-loop-origin l = slice_get (filter (has_name l.names) l.origins) l.fn.k ≡ slice_get (filter (has_name l.names) (drop l.origin-index l.origins)) l.left
