use Rattle.std.proofs.Common.{◌∙◌, ◌+◌, ◌*◌, ap, nat_lt, arith, drop}
use Rattle.std.specs.List.{list_any}
use Rattle.std.proofs.lemmas.List.{take_rest}
use Rattle.blk_deps.specs.Ground.{has_bit}
use Rattle.blk_deps.proofs.PairLemmas.{pairs_asked}
use Rattle.blk_deps.proofs.value.has_pairs.Goals as goal

pub returns : goal.returns
returns c =
    let l = c.args.layout.now in
    let value = c.args.value.now in
    pairs_asked l value c.requires.layout c.requires.size c.joined.result c.below.result (omega (arith, c.joined.type_inv))
    (λ b lt. c.joined.ensures b lt
    ∙ ap (list_any (λ word. has_bit word b)) (take_rest value (2 * c.cell_words.result + 1))
    ∙ ap (λ w. list_any (λ word. has_bit word b) (drop (2 * w + 1) value)) c.cell_words.ensures)
    (λ b small. c.below.ensures b small ∙ ap (nat_lt b) c.places.ensures)
