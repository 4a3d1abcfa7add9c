use Rattle.std.proofs.Common.{◌≡◌, ◌++◌, drop}
use Rattle.std.specs.List.{filter_map}
use Rattle.asm_core.specs.Entries.{access_at, origins}
use Rattle.x86_rows.proofs.line_entries.push_accesses.Given as goal

abbrev pub invariant-loop-origin : goal.invariant-loop-origin
invariant-loop-origin l = l.fn.found ++ filter_map (access_at l.store l.row l.s) origins ≡ l.found
    ++ filter_map (access_at l.store l.row l.s) (drop l.origin-index origins)
