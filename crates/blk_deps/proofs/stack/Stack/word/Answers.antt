use Rattle.std.proofs.Common.{◌∙◌, ap, sym, arith}
use Rattle.dataflow.specs.Bits.{facts_in}
use Rattle.blk_deps.specs.Ground.{has_bit}
use Rattle.blk_deps.proofs.DepthWords.{one_word}
use Rattle.blk_deps.proofs.stack.Stack.word.Goals as goal

pub returns : goal.returns
returns c =
    λ depth. ap (λ w. has_bit w depth.0) c.only_word.ensures
    ∙ sym (one_word c.row.result.now depth.0 (c.row.ensures.width ∙ c.requires.width)
    (omega (arith, c.only_word.ensures, c.only_word.type_inv)))
    ∙ ap (λ r. facts_in r depth.0) c.row.ensures.row
