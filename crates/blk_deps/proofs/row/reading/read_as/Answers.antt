use Rattle.std.proofs.Common.{◌∙◌, ◌+◌, ◌*◌, ◌/◌, ◌%◌, ◌==◌, ◌&&◌, ◌||◌, ap}
use Rattle.std.proofs.lemmas.Bool.{lt-ltb, le-ltb}
use Rattle.dataflow.specs.Bits.{facts_in}
use Rattle.blk_deps.specs.Ground.{has_bit}
use Rattle.blk_deps.proofs.ReadLemmas.{joins_other, joins_byte}
use Rattle.blk_deps.proofs.row.reading.read_as.Goals as goal

pub returns-then-cell-lt148-clause-read : goal.returns-then-cell-lt148-clause-read
returns-then-cell-lt148-clause-read c =
    let l = c.args.layout.now in
    let u = c.args.cell in
    joins_byte l c.args.row.now u c.requires.layout c.requires.row c.requires.cell c.value.result.now c.args.to.now c.join.new.words c.join_word.new.words
    c.overwriters.result (lt-ltb u 148 c.if-cell-lt148.true) c.value.ensures.held c.join.ensures.bits c.overwriters.ensures
    (λ n. c.join_word.ensures.bits n
    ∙ ap (λ w. facts_in c.join.new.words n || (n / 64 == 2 * w + 1 + u / 4 && has_bit c.overwriters.result (n % 64))) c.cell_words.ensures)

pub returns-else-cell-lt148-clause-read : goal.returns-else-cell-lt148-clause-read
returns-else-cell-lt148-clause-read c =
    let l = c.args.layout.now in
    let u = c.args.cell in
    joins_other l c.args.row.now u c.requires.layout c.requires.row c.requires.cell c.value.result.now c.args.to.now c.join.new.words
    (le-ltb u 148 c.if-cell-lt148.false) c.value.ensures.held c.join.ensures.bits
