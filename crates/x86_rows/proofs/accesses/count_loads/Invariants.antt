use Rattle.std.proofs.Common.{◌≡◌, ◌+◌, ◌≤◌, false, drop, length}
use Rattle.std.specs.List.{filter_map}
use Rattle.asm_core.specs.Entries.{access_at}
use Rattle.x86_rows.proofs.accesses.count_loads.Given as goal

abbrev pub invariant-loop-origin : goal.invariant-loop-origin
invariant-loop-origin l = (length (filter_map (access_at false l.row l.s) l.origins) ≡ l.count + length (filter_map (access_at false l.row l.s) (drop l.origin-index l.origins))) × (l.count ≤ l.origin-index)
