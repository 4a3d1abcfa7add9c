use Rattle.std.proofs.Common.{◌%◌, arith}
use Rattle.blk_deps.proofs.WordLemmas.{facts_next}
use Rattle.blk_deps.proofs.words.fill_first.Goals as goal

pub loop-i-preserved : goal.loop-i-preserved
loop-i-preserved c =
    facts_next (λ n. c.args.on) c.args.words.now c.loop-i.words c.loop-i.i _
    (omega (arith, c.loop-i.auto.words, c.loop-i-test.true, c.requires))
    c.loop-i.invariant (λ n same. c.all-word.ensures (n % 64) (omega arith))
