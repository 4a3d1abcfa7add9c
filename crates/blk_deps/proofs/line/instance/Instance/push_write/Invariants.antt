use Rattle.std.proofs.Common.{◌≡◌, ◌++◌, map}
use Rattle.std.specs.List.{range_with_len}
use Rattle.blk_deps.specs.Line.{read_for}
use Rattle.blk_deps.specs.LineMoves.{interface_of, shape_of}
use Rattle.blk_deps.proofs.line.instance.Instance.push_write.Given as goal

abbrev pub invariant-loop-n : goal.invariant-loop-n
invariant-loop-n l =
    l.reads ≡ l.fn.reads ++ map (read_for (interface_of l.self) (shape_of l.self) l.self.depth l.self.line.now l.k l.write.by) (range_with_len 0 l.n)
