use Rattle.std.proofs.Common.{◌<◌, length, arith}
use Rattle.asm_core.specs.Entries.{known_in}
use Rattle.x86_rows.proofs.Values.{blank, facts-more}
use Rattle.x86_rows.proofs.fact.facts.Goals as goal

pub loop-op-preserved : goal.loop-op-preserved
loop-op-preserved c =
    let within : c.loop-op.op-index < length c.args.row.now = omega arith in
    let more = facts-more c.args.s.now.width (known_in c.args.s.now) c.args.row.now c.loop-op.op-index c.loop-op.facts.items blank within in
    (omega arith, cc (more, c.op_fact-fact.ensures, c.push.ensures.items, c.as_slice.ensures.value, c.loop-op.invariant.1))
