use Rattle.std.proofs.Common.{◌∙◌, ◌+◌, ◌*◌, ◌&&◌, ap, nat_lt, slice_index}
use Rattle.blk_deps.specs.Ground.{has_bit}
use Rattle.blk_deps.proofs.WordLemmas.{has_and}
use Rattle.blk_deps.proofs.PropertyLemmas.{pair_masked}
use Rattle.blk_deps.proofs.value.pairs.Goals as goal

pub returns : goal.returns
returns c d lt =
    let l = c.args.layout.now in
    let value = c.args.value.now in
    has_and _ c.below.result d
    ∙ ap (λ w. has_bit (slice_index value (2 * w + 1 + c.args.place)) d && has_bit c.below.result d) c.cell_words.ensures
    ∙ pair_masked l value d c.args.place c.below.result c.requires.layout c.requires.size
    (λ b small. c.below.ensures b small ∙ ap (nat_lt b) c.places.ensures) lt c.requires.place
