use Rattle.std.proofs.Common.{◌+◌, ◌∙◌, ap, slice_index, nat_lt, ◌&&◌, arith}
use Rattle.std.proofs.lemmas.Bool.{and_parts}
use Rattle.blk_deps.specs.Ground.{has_bit}
use Rattle.blk_deps.proofs.WordLemmas.{has_and}
use Rattle.blk_deps.proofs.FactLemmas.{overwriters_masked}
use Rattle.blk_deps.proofs.row.overwriters.Goals as goal

pub returns : goal.returns
returns c d lt =
    let l = c.args.layout.now in
    let row = c.args.row.now in
    let at = c.block.result in
    let byte = and_parts _ _ c.requires.cell in
    has_and _ c.below.result d
    ∙ ap (λ n. has_bit (slice_index row (at + n)) d && has_bit c.below.result d) c.value_words.ensures
    ∙ overwriters_masked l row d c.args.cell at c.below.result c.requires.layout (omega (arith, c.requires.size)) byte.0 c.block.ensures
    (λ b small. c.below.ensures b small ∙ ap (nat_lt b) c.places.ensures) lt
