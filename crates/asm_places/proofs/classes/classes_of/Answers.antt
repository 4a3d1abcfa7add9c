use Rattle.std.proofs.Common.{◌∙◌, arith}
use Rattle.std.proofs.lemmas.List.{length-set}
use Rattle.asm_places.specs.Classes.{absent, class_for}
use Rattle.asm_places.proofs.Filling.{filled_more}
use Rattle.asm_places.proofs.classes.classes_of.Goals as goal

pub loop-k-preserved : goal.loop-k-preserved
loop-k-preserved c = (
  length-set c.loop-k.classes c.loop-k.k c.class_for.result ∙ c.loop-k.invariant.0,
  filled_more c.loop-k.classes c.loop-k.k c.class_for.result absent (class_for c.args.i.now c.args.s.now c.args.goal.now) c.loop-k.invariant.0 c.loop-k-test.true c.class_for.ensures c.loop-k.invariant.1,
)

pub returns : goal.returns
returns c = record { size = c.loop-k.invariant.0; each = λ k lt. c.loop-k.invariant.1 k (let end = c.loop-k-test.false in omega arith) }
