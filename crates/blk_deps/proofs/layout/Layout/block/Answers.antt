use Rattle.std.proofs.Common.{◌+◌, ◌*◌, ◌≤◌, sym, subst}
use Rattle.blk_deps.specs.Layout.{block_words, row_words}
use Rattle.blk_deps.proofs.SlotLemmas.{block_inside}
use Rattle.blk_deps.proofs.layout.Layout.block.Goals as goal

pub returns-clause-inside : goal.returns-clause-inside
returns-clause-inside c =
    let l = c.args.self.now in
    subst (λ n. 1 + l.operands + c.args.slot * n + block_words l ≤ row_words l) (sym c.block_words.ensures) (block_inside l c.args.slot c.requires.slot)
