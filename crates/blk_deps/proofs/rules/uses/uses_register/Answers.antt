use Rattle.std.proofs.Common.{[], ◌∷◌, ◌∙◌, sym, ap, arith}
use Rattle.asm_core.specs.Reg.{reg_number}
use Rattle.blk_deps.specs.Ground.{has_bit}
use Rattle.blk_deps.specs.Layout.{shown_value}
use Rattle.blk_deps.specs.Ruling.{some_byte, from_class}
use Rattle.blk_deps.proofs.AnyLaws.{and_then, and_else}
use Rattle.blk_deps.proofs.UseLemmas.{reg_below, every_byte}
use Rattle.blk_deps.proofs.rules.uses.uses_register.Goals as goal

pub has_bit-requires : goal.has_bit-requires
has_bit-requires c = let below = reg_below c.args.register in omega arith

pub overflow_cast-p : goal.overflow_cast-p
overflow_cast-p c = let below = reg_below c.args.register in omega arith

pub entry_in_class-requires : goal.entry_in_class-requires
entry_in_class-requires c = let below = reg_below c.args.register in omega arith

pub returns-then-has_bit : goal.returns-then-has_bit
returns-then-has_bit c =
    let below = reg_below c.args.register in
    let lone = sym (c.requires.context.lone (reg_number c.args.register) (omega arith))
    ∙ ap (has_bit c.args.scene.now.context.now.ground.now.lone) (sym c.number-p.ensures)
    ∙ sym c.has_bit.ensures ∙ c.if-has_bit.true in
    and_then _ _ _ lone
    (c.entry_in_class.ensures
    ∙ ap (λ p. some_byte (from_class (18446744073709551615 ∷ 18446744073709551615 ∷ 18446744073709551615 ∷ [])
    (shown_value c.args.used.now.layout c.args.used.now.words.now)) p) c.number-p.ensures
    ∙ every_byte (shown_value c.args.used.now.layout c.args.used.now.words.now) (reg_number c.args.register)
    (omega arith))

pub returns-else-has_bit : goal.returns-else-has_bit
returns-else-has_bit c =
    let below = reg_below c.args.register in
    let lone = sym (c.requires.context.lone (reg_number c.args.register) (omega arith))
    ∙ ap (has_bit c.args.scene.now.context.now.ground.now.lone) (sym c.number-p.ensures)
    ∙ sym c.has_bit.ensures ∙ c.if-has_bit.false in
    and_else _ _ _ lone c.if-has_bit.false
