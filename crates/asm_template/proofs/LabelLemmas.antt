-- A word at the end is no longer than the whole.
use Rattle.std.proofs.lemmas.List.Sums.{suffix_len-le-length}

pub ruleset word_bounds = (suffix_len-le-length)
