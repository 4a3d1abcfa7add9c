use Rattle.std.proofs.Common.{sym, ◌∙◌, arith}
use Rattle.std.proofs.lemmas.Bool.{lt-ltb}
use Rattle.blk_deps.proofs.WordLemmas.{has_below, has_all}
use Rattle.blk_deps.proofs.words.below.Goals as goal

pub returns-then-n-lt64 : goal.returns-then-n-lt64
returns-then-n-lt64 c b lt = has_below c.args.n b c.if-n-lt64.true

pub returns-else-n-lt64 : goal.returns-else-n-lt64
returns-else-n-lt64 c b lt = has_all b lt ∙ sym (lt-ltb b c.args.n (omega (arith, lt, c.if-n-lt64.false)))
