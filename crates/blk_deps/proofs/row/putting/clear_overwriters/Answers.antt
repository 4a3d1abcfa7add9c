use Rattle.std.proofs.Common.{◌+◌, ◌/◌, ◌%◌, ◌==◌, ◌∙◌, ap, false, if◌then◌else◌, arith}
use Rattle.std.proofs.lemmas.Bool.{and_parts}
use Rattle.std.proofs.lemmas.List.{length-set}
use Rattle.dataflow.specs.Bits.{facts_in}
use Rattle.blk_deps.specs.Cells.{is_byte}
use Rattle.blk_deps.specs.Fits.{has_slot}
use Rattle.blk_deps.proofs.WordLemmas.{facts_set, has_none}
use Rattle.blk_deps.proofs.PutLemmas.{word_cleared}
use Rattle.blk_deps.proofs.row.putting.clear_overwriters.Goals as goal

pub returns-clause-facts : goal.returns-clause-facts
returns-clause-facts c =
    let l = c.args.layout.now in
    let row = c.args.row.now in
    let word = c.block.result + c.value_words.result in
    let parts = and_parts (is_byte c.args.cell) (has_slot l c.args.cell) c.requires.cell in
    let inside = c.block.ensures.ends in
    word_cleared l c.requires.layout row _ c.args.cell c.block.result c.block.ensures c.requires.size (length-set row word 0 ∙ c.requires.size) parts.0
    (λ n. facts_set row word 0 n (omega (arith, inside, c.value_words.ensures, c.requires.size))
    ∙ ap (λ b. if n / 64 == word then b else facts_in row n) (has_none (n % 64))
    ∙ ap (λ w. if n / 64 == c.block.result + w then false else facts_in row n) c.value_words.ensures)
