use Rattle.std.proofs.Common.{◌+◌, ◌≤◌, sym, subst, ◌∙◌}
use Rattle.blk_deps.specs.Layout.{block_words, row_words}
use Rattle.blk_deps.proofs.SlotLemmas.{slot_inside, block_inside}
use Rattle.blk_deps.proofs.row.block.Goals as goal

pub returns-in-Some : goal.returns-in-Some
returns-in-Some c =
    let l = c.args.layout.now in
    let is_slot = sym c.slot.ensures ∙ c.in-Some.is in
    let within = block_inside l c.in-Some.slot (slot_inside l c.args.cell c.in-Some.slot c.requires.layout is_slot) in
    record {
      number = c.in-Some.slot;
      is_slot = is_slot;
      begins = c.block.ensures.at;
      ends = subst (λ at. at + block_words l ≤ row_words l) (sym c.block.ensures.at) within;
    }
