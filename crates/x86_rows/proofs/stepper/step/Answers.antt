use Rattle.asm_core.specs.MicroOps.{destinations_of, values_of, read_in, row_ended}
use Rattle.asm_core.specs.RowLaws.{IsHitByOne}
use Rattle.asm_core.proofs.Laws.{call_obeys}
use Rattle.asm_core.proofs.StepLaws.{row_changes, call_changes}
use Rattle.x86_rows.proofs.stepper.step.Goals as goal

pub returns-clause-changes : goal.returns-clause-changes
returns-clause-changes c =
    call_changes (IsHitByOne (destinations_of c.args.line.now.inst.now c.args.m.now c.args.row.now)) c.step_by_row.result
    (row_ended c.args.row.now c.args.line.now.inst.now c.args.goal c.args.line.now.choice c.args.line.now.words.now c.args.m.now) c.args.m.now c.step_by_row.new.m
    (row_changes c.args.row.now c.args.line.now.inst.now c.args.goal (values_of c.args.line.now.inst.now.width (read_in c.args.line.now.inst.now c.args.line.now.choice c.args.line.now.words.now c.args.m.now) c.args.row.now) c.args.m.now)
    c.step_by_row.ensures

pub returns-clause-obeys : goal.returns-clause-obeys
returns-clause-obeys c =
    call_obeys c.args.row.now c.args.line.now.inst.now c.args.goal c.args.line.now.choice c.args.line.now.words.now c.step_by_row.result c.args.m.now c.step_by_row.new.m c.step_by_row.ensures
