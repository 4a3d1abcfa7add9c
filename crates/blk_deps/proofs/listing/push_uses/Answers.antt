use Rattle.blk_deps.specs.Listing.{uses_of}
use Rattle.blk_deps.proofs.ListingLemmas.{three}
use Rattle.blk_deps.proofs.listing.push_uses.Goals as goal

pub returns : goal.returns
unfolding uses_of
returns c = three _ _ _ _ _ _ _ c.in_ok-push_alone.ensures c.in_ok-push_pairs.ensures c.in_ok-push_alone-2.ensures
