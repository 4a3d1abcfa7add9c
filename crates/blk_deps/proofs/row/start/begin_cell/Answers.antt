use Rattle.std.proofs.Common.{◌≡◌, ◌+◌, ◌-◌, ◌≤◌, ◌∙◌, length, sym, arith}
use Rattle.blk_deps.specs.Layout.{value_words}
use Rattle.blk_deps.proofs.StartLemmas.{own_put, length_put_mid}
use Rattle.blk_deps.proofs.row.start.begin_cell.Goals as goal

pub returns-clause-facts : goal.returns-clause-facts
returns-clause-facts c cell has =
    let l = c.args.layout.now in
    let at = c.block-at.result in
    let row = c.args.row.now in
    let part = c.put_own.new.value in
    let size : at + c.value_words.result - at ≡ value_words l = omega (arith, c.value_words.ensures) in
    let inside : at + (at + c.value_words.result - at) ≤ length row = omega (arith, c.block-at.ensures.inside, size, c.requires.size) in
    own_put l c.requires.layout cell c.args.number at has c.block-at.ensures.at c.block-at.ensures.inside row part (at + c.value_words.result - at) size
    c.requires.size c.put_own.ensures.size
    (length_put_mid row part at (at + c.value_words.result - at) inside (c.put_own.ensures.size ∙ sym size) ∙ c.requires.size)
    c.requires.here c.put_own.ensures.bits
