use Rattle.std.proofs.Common.{ap, sym, ◌∙◌}
use Rattle.asm_core.specs.Company.{held_at}
use Rattle.blk_deps.specs.Cells.{place_at}
use Rattle.blk_deps.specs.Operands.{is_held}
use Rattle.blk_deps.proofs.GroundPlaces.{pair_bits, held_one}
use Rattle.blk_deps.proofs.ground.registers.places_at.Goals as goal

pub returns-in-Pair : goal.returns-in-Pair
returns-in-Pair c = λ p within. pair_bits p ∙ sym (ap (λ x. is_held (held_at (place_at p) x)) c.in-Pair.is)

pub returns-in-One : goal.returns-in-One
returns-in-One c = λ p within. c.only.ensures p within ∙ sym (held_one p c.in-One.place)
    ∙ sym (ap (λ x. is_held (held_at (place_at p) x)) c.in-One.is)
