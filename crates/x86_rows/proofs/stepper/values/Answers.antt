use Rattle.std.proofs.Common.{◌<◌, length, arith}
use Rattle.asm_core.specs.MicroOps.{read_in}
use Rattle.x86_rows.proofs.Values.{blank, values-more}
use Rattle.x86_rows.proofs.stepper.values.Goals as goal

pub loop-op-preserved : goal.loop-op-preserved
loop-op-preserved c =
    let within : c.loop-op.op-index < length c.args.row.now = omega arith in
    let more = values-more c.args.line.now.inst.now.width (read_in c.args.line.now.inst.now c.args.line.now.choice c.args.line.now.words.now c.args.m.now) c.args.row.now c.loop-op.op-index c.loop-op.values.items blank within in
    (omega arith, cc (more, c.computed-value.ensures, c.push.ensures.items, c.as_slice.ensures.value, c.loop-op.invariant.1))
