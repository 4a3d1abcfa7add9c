use Rattle.std.proofs.Common.{sym, ◌∙◌}
use Rattle.blk_deps.proofs.GroundNames.{by_output, by_input, by_itself}
use Rattle.blk_deps.proofs.ground.naming.place_name.Goals as goal

pub returns-in-Some : goal.returns-in-Some
returns-in-Some c = by_output c.args.interface.now c.args.shape.now c.args.p c.in-Some.output
    (sym c.first_there.ensures ∙ c.in-Some.is)

pub returns-in-Some-first_there : goal.returns-in-Some-first_there
returns-in-Some-first_there c = by_input c.args.interface.now c.args.shape.now c.args.p c.in-Some-first_there.input
    (sym c.first_there.ensures ∙ c.in-None.is)
    (sym c.first_there-in-None.ensures ∙ c.in-Some-first_there.is)

pub returns-in-None-first_there : goal.returns-in-None-first_there
returns-in-None-first_there c = c.bare_name.ensures
    ∙ by_itself c.args.interface.now c.args.shape.now c.args.p
    (sym c.first_there-in-None.ensures ∙ c.in-None-first_there.is)
