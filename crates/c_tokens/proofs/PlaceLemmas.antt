-- Lines and columns are no more than the bytes before an offset.
use Rattle.std.proofs.Common.{ℕ, ◌≤◌, Bool, List, length, arith, reverse}
use Rattle.std.specs.List.{suffix_len}
use Rattle.std.proofs.lemmas.List.{length-reverse}
use Rattle.std.proofs.lemmas.List.Sums.{prefix_len-le-length}

pub suffix_len-le : (p : ℕ → Bool) (bs : List ℕ) → suffix_len p bs ≤ length bs
suffix_len-le p bs = omega (arith, prefix_len-le-length p (reverse bs), length-reverse bs)

pub ruleset place_bounds = (suffix_len-le)
