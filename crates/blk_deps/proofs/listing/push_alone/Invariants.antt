use Rattle.std.proofs.Common.{◌≡◌, ◌++◌, map, take}
use Rattle.blk_deps.specs.Findings.{alone}
use Rattle.blk_deps.proofs.listing.push_alone.Given as goal

abbrev pub invariant-loop-cell : goal.invariant-loop-cell
invariant-loop-cell l = l.list ≡ l.initial.list ++ map (alone l.rule) (take l.cell-index l.cells)
