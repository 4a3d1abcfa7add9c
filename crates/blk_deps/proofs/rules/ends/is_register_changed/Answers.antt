use Rattle.std.proofs.Common.{◌∙◌, sym, ap, bit_and, arith}
use Rattle.asm_core.specs.Reg.{reg_number}
use Rattle.blk_deps.specs.Ground.{has_bit}
use Rattle.blk_deps.specs.Layout.{shown}
use Rattle.blk_deps.specs.Ruling.{some_byte}
use Rattle.blk_deps.specs.Ending.{is_changed_cell}
use Rattle.blk_deps.proofs.AnyLaws.{and_then, and_else}
use Rattle.blk_deps.proofs.ByteLemmas.{bytes_of_place}
use Rattle.blk_deps.proofs.UseLemmas.{reg_below}
use Rattle.blk_deps.proofs.EndLemmas.{undeclared_bit}
use Rattle.blk_deps.proofs.rules.ends.is_register_changed.Goals as goal

pub returns-then-has_bit : goal.returns-then-has_bit
returns-then-has_bit c =
    let below = reg_below c.args.register in
    let is = undeclared_bit c.args.scene.now.context.now.interface.now c.args.scene.now.context.now.shape.now
    c.args.scene.now.context.now.ground.now.kept c.args.scene.now.context.now.ground.now.lone
    (reg_number c.args.register)
    (c.requires.scene.context.kept (reg_number c.args.register) (omega arith)) (c.requires.scene.context.lone
    (reg_number c.args.register) (omega arith)) in
    and_then _ _ _ (sym is ∙ ap (has_bit
    (bit_and c.args.scene.now.context.now.ground.now.kept c.args.scene.now.context.now.ground.now.lone))
    (sym c.number-p.ensures) ∙ sym c.has_bit.ensures ∙ c.if-has_bit.true)
    (c.is_place_changed.ensures ∙ ap (some_byte (is_changed_cell
    (shown c.args.scene.now.layout.now c.args.row.now))) c.number-p.ensures
    ∙ bytes_of_place (is_changed_cell (shown c.args.scene.now.layout.now c.args.row.now)) (reg_number c.args.register))

pub returns-else-has_bit : goal.returns-else-has_bit
returns-else-has_bit c =
    let below = reg_below c.args.register in
    let is = undeclared_bit c.args.scene.now.context.now.interface.now c.args.scene.now.context.now.shape.now
    c.args.scene.now.context.now.ground.now.kept c.args.scene.now.context.now.ground.now.lone
    (reg_number c.args.register)
    (c.requires.scene.context.kept (reg_number c.args.register) (omega arith)) (c.requires.scene.context.lone
    (reg_number c.args.register) (omega arith)) in
    and_else _ _ _ (sym is ∙ ap (has_bit
    (bit_and c.args.scene.now.context.now.ground.now.kept c.args.scene.now.context.now.ground.now.lone))
    (sym c.number-p.ensures) ∙ sym c.has_bit.ensures ∙ c.if-has_bit.false)
    c.if-has_bit.false
