use Rattle.std.proofs.Common.{◌≡◌, ◌++◌, map, take}
use Rattle.blk_deps.specs.Listing.{paired}
use Rattle.blk_deps.proofs.listing.push_pairs_with.Given as goal

abbrev pub invariant-loop-other : goal.invariant-loop-other
invariant-loop-other l = l.list ≡ l.initial.list ++ map (paired l.rule l.cell) (take l.other-index l.cells)
