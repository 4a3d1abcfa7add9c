use Rattle.std.proofs.Common.{◌≡◌, ◌++◌, drop}
use Rattle.blk_deps.specs.Line.{reads_from}
use Rattle.blk_deps.specs.LineMoves.{interface_of, shape_of}
use Rattle.blk_deps.proofs.line.reads.line_reads.Given as goal

abbrev pub invariant-loop-k : goal.invariant-loop-k
invariant-loop-k l =
    reads_from (interface_of l.x) (shape_of l.x) l.x.depth l.x.line.now 0 l.x.entries.now.writes
    ≡ l.reads ++ reads_from (interface_of l.x) (shape_of l.x) l.x.depth l.x.line.now l.k (drop l.k l.x.entries.now.writes)
