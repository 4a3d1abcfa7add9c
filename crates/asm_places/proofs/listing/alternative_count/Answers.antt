use Rattle.std.proofs.Common.{◌∙◌, sym}
use Rattle.asm_places.proofs.ListLaws.{alternatives_some}
use Rattle.asm_places.proofs.listing.alternative_count.Goals as goal

pub returns-in-Some : goal.returns-in-Some
returns-in-Some c = c.len.ensures ∙ sym (alternatives_some c.args.i.now c.in-Some.operand.now (sym c.in-Some.ensures.value))
