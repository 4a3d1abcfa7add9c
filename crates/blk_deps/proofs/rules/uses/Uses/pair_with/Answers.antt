use Rattle.std.proofs.Common.{◌∙◌}
use Rattle.blk_deps.proofs.MaskLemmas.{common_places}
use Rattle.blk_deps.proofs.rules.uses.Uses.pair_with.Goals as goal

pub returns : goal.returns
returns c = c.meets.ensures ∙ common_places _ _ _ c.requires.mask c.pairs.ensures
