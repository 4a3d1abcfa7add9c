use Rattle.std.proofs.Common.{length, replicate}
use Rattle.blk_deps.specs.Noting.{IsNoted}
use Rattle.blk_deps.specs.Judged.{IsBrokenBelow}
use Rattle.blk_deps.proofs.judged.least_lines.Given as goal

-- the least lines under the shapes so far
abbrev pub invariant-loop-k : goal.invariant-loop-k
invariant-loop-k l = IsNoted (IsBrokenBelow l.interface l.live l.graphs l.k) l.violations (replicate (length l.violations) 0) l.least.lines.items
