use Rattle.std.proofs.Common.{◌≡◌, ◌++◌, drop, map}
use Rattle.asm_core.specs.Entries.{source_in, origins, sources_of}
use Rattle.x86_rows.proofs.Halving.{by_bits}
use Rattle.x86_rows.proofs.line_entries.sources.Given as goal

abbrev pub invariant-loop-origin : goal.invariant-loop-origin
invariant-loop-origin l = sources_of l.s l.names ≡ l.found
    ++ map (source_in l.s) (by_bits l.bits (drop l.origin-index origins))
