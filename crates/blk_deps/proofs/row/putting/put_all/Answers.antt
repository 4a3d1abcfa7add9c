use Rattle.std.proofs.lemmas.List.{get_or_default}
use Rattle.blk_deps.proofs.DownLemmas.{next_reached, all_put}
use Rattle.blk_deps.proofs.row.putting.put_all.Goals as goal

pub loop-put-preserved : goal.loop-put-preserved
loop-put-preserved c =
    next_reached c.args.layout.now c.args.sharers.now c.args.hands.now c.args.puts.now c.loop-put.put-index _ c.args.row.now c.loop-put.row c.put_down.new.row
    c.loop-put-test.true (get_or_default c.args.puts.now c.loop-put.put-index _ _ c.loop-put-test.true) c.loop-put.invariant c.put_down.ensures.put

pub returns-clause-moves : goal.returns-clause-moves
returns-clause-moves c =
    all_put c.args.layout.now c.args.sharers.now c.args.hands.now c.args.puts.now c.loop-put.put-index c.args.row.now c.loop-put.row c.loop-put-test.false
    c.loop-put.invariant
