use Rattle.std.proofs.Common.{◌≡◌, ◌++◌, map, drop}
use Rattle.blk_deps.specs.Line.{access_cells, accesses_in}
use Rattle.blk_deps.specs.LineMoves.{interface_of, shape_of}
use Rattle.blk_deps.specs.declared.step.Name.{Name}
use Rattle.blk_deps.proofs.line.instance.Instance.access_names.Given as goal

abbrev pub invariant-loop-access : goal.invariant-loop-access
invariant-loop-access l =
    map Name.Cell (access_cells (interface_of l.self) (shape_of l.self) l.self.entries.now.accesses)
    ≡ l.names ++ map Name.Cell (access_cells (interface_of l.self) (shape_of l.self) (drop l.access-index l.self.entries.now.accesses))
