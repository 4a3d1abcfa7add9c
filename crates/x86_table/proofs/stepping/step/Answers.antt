use Rattle.std.proofs.Common.{◌<◌, length, arith}
use Rattle.x86_table.proofs.Ends.{step_goes_on}
use Rattle.x86_table.proofs.stepping.step.Goals as goal

pub returns-in-Some-clause-ended : goal.returns-in-Some-clause-ended
returns-in-Some-clause-ended c =
    let within : c.args.m.now.at < length c.args.code.now.insts = c.in-Some.ensures.within in
    let goes_on = step_goes_on c.step.result c.in-Some.inst.now c.goal.result c.args.choice c.args.outside.now c.args.m.now in
    (λ e. absurd (goes_on c.step.new.m c.step.ensures e), λ past. absurd (omega arith))
