use Rattle.std.proofs.Common.{◌≡◌, ◌*◌, ◌≤◌, ◌++◌, drop}
use Rattle.blk_deps.specs.Line.{puts_from}
use Rattle.blk_deps.specs.LineMoves.{interface_of, shape_of}
use Rattle.blk_deps.proofs.line.puts.line_puts.Given as goal

abbrev pub invariant-loop-write : goal.invariant-loop-write
invariant-loop-write l =
    (puts_from (interface_of l.x) (shape_of l.x) l.x.depth 0 l.x.entries.now.writes
    ≡ l.puts ++ puts_from (interface_of l.x) (shape_of l.x) l.x.depth l.hand (drop l.write-index l.x.entries.now.writes))
    × (l.hand ≤ 8 * l.write-index)
