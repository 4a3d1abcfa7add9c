use Rattle.std.proofs.Common.{◌≡◌, ◌++◌, drop, map}
use Rattle.blk_deps.specs.Noting.{line_of, findings_at, listed_of}
use Rattle.blk_deps.proofs.findings.listed.Given as goal

abbrev pub invariant-loop-t : goal.invariant-loop-t
invariant-loop-t l =
    l.found ++ findings_at (drop l.t l.violations) (drop l.t (map line_of l.least.lines.items)) ≡ listed_of l.violations l.least.lines.items
