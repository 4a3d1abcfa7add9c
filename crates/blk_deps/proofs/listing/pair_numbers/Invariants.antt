use Rattle.std.proofs.Common.{◌-◌, length}
use Rattle.blk_deps.specs.Listing.{AreOfPairs}
use Rattle.blk_deps.proofs.listing.pair_numbers.Given as goal

-- those so far are of pairs
abbrev pub invariant-loop-end : goal.invariant-loop-end
invariant-loop-end l = AreOfPairs l.violations (record { first = l.first; end = l.end })

abbrev pub decreases-loop-end : goal.decreases-loop-end
decreases-loop-end l = length l.violations - l.end
