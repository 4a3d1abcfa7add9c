use Rattle.std.proofs.Common.{◌∙◌, sym, arith}
use Rattle.blk_deps.proofs.SlotLemmas.{slot_inside}
use Rattle.blk_deps.proofs.UseLemmas.{entry_bit, no_entry_bit}
use Rattle.blk_deps.proofs.rules.uses.Uses.entry_of.Goals as goal

pub overflow_add-cell_words : goal.overflow_add-cell_words
overflow_add-cell_words c =
    let inside = slot_inside c.args.self.now.layout c.args.cell c.in-Some.x c.args.self.now.fits
    (sym c.slot.ensures ∙ c.in-Some.is) in
    omega (arith, inside, c.args.self.now.fits.operands, c.args.self.now.fits.words)

pub returns-in-Some : goal.returns-in-Some
returns-in-Some c = c.has_fact.ensures ∙ (rw c.cell_words.ensures
    (entry_bit c.args.self.now.layout c.args.self.now.words.now c.args.cell c.in-Some.x (sym c.slot.ensures
    ∙ c.in-Some.is)))

pub returns-in-None : goal.returns-in-None
returns-in-None c = no_entry_bit c.args.self.now.layout c.args.self.now.words.now c.args.cell c.args.self.now.size
    (sym c.slot.ensures ∙ c.in-None.is)
