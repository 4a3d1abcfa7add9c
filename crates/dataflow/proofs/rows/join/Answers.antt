use Rattle.std.proofs.Common.{arith}
use Rattle.dataflow.proofs.Words.{word_joins, all_joined}
use Rattle.dataflow.proofs.rows.join.Goals as goal

pub loop-i-preserved : goal.loop-i-preserved
loop-i-preserved c =
    word_joins c.loop-i.i c.args.more.now c.loop-i.grew c.args.row.now c.loop-i.row c.joined-joined.result
    c.loop-i.invariant
    (omega arith) c.joined-joined.ensures c.joined-joined.type_inv

pub returns : goal.returns
returns c = all_joined c.loop-i.i _ _ _ _ c.loop-i.invariant (omega arith) (omega arith)
