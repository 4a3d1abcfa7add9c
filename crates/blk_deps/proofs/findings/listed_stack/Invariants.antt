use Rattle.std.proofs.Common.{◌≡◌, ◌++◌, drop}
use Rattle.blk_deps.specs.Noting.{findings_at}
use Rattle.blk_deps.proofs.findings.listed_stack.Given as goal

abbrev pub invariant-loop-t : goal.invariant-loop-t
invariant-loop-t l = l.found ++ findings_at (drop l.t l.violations) (drop l.t l.lines) ≡ findings_at l.violations l.lines
