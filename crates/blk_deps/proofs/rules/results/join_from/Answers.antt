use Rattle.std.proofs.Common.{◌∙◌, ◌+◌, ◌*◌, ◌/◌, ◌%◌, ◌==◌, ◌&&◌, ◌||◌, ap}
use Rattle.dataflow.specs.Bits.{facts_in}
use Rattle.blk_deps.specs.Ground.{has_bit}
use Rattle.blk_deps.proofs.CollectLemmas.{adds_pairs}
use Rattle.blk_deps.proofs.rules.results.join_from.Goals as goal

pub returns-clause-adds : goal.returns-clause-adds
returns-clause-adds c = adds_pairs c.args.layout.now c.args.value.now c.args.to.now c.join_word.new.words c.args.u
    c.pairs.result c.requires.layout c.requires.value c.requires.place
    (λ n. c.join_word.ensures.bits n ∙ ap (λ w. facts_in c.args.to.now n ||
    (n / 64 == 2 * w + 1 + c.args.u && has_bit c.pairs.result (n % 64))) c.cell_words.ensures) c.pairs.ensures
