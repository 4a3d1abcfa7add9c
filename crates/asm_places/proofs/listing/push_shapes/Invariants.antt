use Rattle.std.proofs.Common.{◌≡◌, ◌++◌, map, take}
use Rattle.asm_places.specs.Counts.{shape_of}
use Rattle.asm_places.proofs.listing.push_shapes.Given as goal

abbrev pub invariant-loop-kinds : goal.invariant-loop-kinds
invariant-loop-kinds l = l.list ≡ l.fn.list ++ map (shape_of l.fn.alternative) (take l.kinds-index l.fn.lists)
