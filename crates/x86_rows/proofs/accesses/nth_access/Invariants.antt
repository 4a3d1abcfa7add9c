use Rattle.std.proofs.Common.{◌≡◌, drop, slice_get}
use Rattle.std.specs.List.{filter_map}
use Rattle.asm_core.specs.Entries.{access_at}
use Rattle.x86_rows.proofs.accesses.nth_access.Given as goal

abbrev pub invariant-loop-origin : goal.invariant-loop-origin
invariant-loop-origin l = slice_get (filter_map (access_at l.store l.row l.s) l.origins) l.fn.k ≡ slice_get (filter_map (access_at l.store l.row l.s) (drop l.origin-index l.origins)) l.left
