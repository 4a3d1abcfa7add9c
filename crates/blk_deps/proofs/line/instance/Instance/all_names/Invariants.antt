use Rattle.std.proofs.Common.{◌≡◌, ◌++◌, drop}
use Rattle.blk_deps.specs.Line.{all_names}
use Rattle.blk_deps.specs.LineMoves.{interface_of, shape_of}
use Rattle.blk_deps.proofs.line.instance.Instance.all_names.Given as goal

abbrev pub invariant-loop-source : goal.invariant-loop-source
invariant-loop-source l =
    all_names (interface_of l.self) (shape_of l.self) l.self.depth l.self.line.now l.sources
    ≡ l.names ++ all_names (interface_of l.self) (shape_of l.self) l.self.depth l.self.line.now (drop l.source-index l.sources)
