use Rattle.std.proofs.Common.{◌+◌, ◌*◌, ◌==◌, ◌∙◌, ap, if◌then◌else◌}
use Rattle.std.proofs.lemmas.Bool.{and_parts}
use Rattle.dataflow.specs.Bits.{facts_in}
use Rattle.blk_deps.specs.Cells.{is_byte}
use Rattle.blk_deps.specs.Fits.{has_slot}
use Rattle.blk_deps.proofs.PutLemmas.{bit_marked}
use Rattle.blk_deps.proofs.row.putting.mark.Goals as goal

pub returns-clause-facts : goal.returns-clause-facts
returns-clause-facts c =
    let l = c.args.layout.now in
    let at = c.block.result in
    let parts = and_parts (is_byte c.args.cell) (has_slot l c.args.cell) c.requires.cell in
    bit_marked l c.requires.layout c.args.row.now c.set.new.words c.args.cell at c.block.ensures c.requires.size (c.set.ensures.size ∙ c.requires.size)
    c.args.place c.args.overwrites parts.0 c.requires.place
    (λ n. c.set.ensures.bits n
    ∙ ap (λ w. if n == 64 * (at + w) + c.args.place then c.args.overwrites else facts_in c.args.row.now n) c.value_words.ensures)
