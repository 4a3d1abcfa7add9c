use Rattle.std.proofs.Common.{◌≡◌, ◌++◌, map, take}
use Rattle.std.specs.List.{flat_map}
use Rattle.blk_deps.specs.Listing.{paired}
use Rattle.blk_deps.proofs.listing.push_pairs.Given as goal

abbrev pub invariant-loop-cell : goal.invariant-loop-cell
invariant-loop-cell l = l.list ≡ l.initial.list ++ flat_map (λ x. map (paired l.rule x) l.cells)
    (take l.cell-index l.cells)
