use Rattle.std.proofs.Common.{◌||◌, arith}
use Rattle.dataflow.specs.Bits.{facts_in}
use Rattle.blk_deps.proofs.WordLemmas.{facts_next, next_joined, all_joined}
use Rattle.blk_deps.proofs.words.join.Goals as goal

pub loop-i-preserved : goal.loop-i-preserved
loop-i-preserved c =
    let old = c.args.words.now in
    let new = c.loop-i.words in
    let more = c.args.more.now in
    facts_next (λ n. facts_in old n || facts_in more n) old new c.loop-i.i _ (omega (arith, c.loop-i.auto.words, c.loop-i-test.true))
    c.loop-i.invariant (λ n same. next_joined old new more c.loop-i.i n c.loop-i.invariant same)

pub returns-clause-bits : goal.returns-clause-bits
returns-clause-bits c = all_joined c.args.words.now c.loop-i.words c.args.more.now c.loop-i.i (omega arith) c.requires c.loop-i.invariant
