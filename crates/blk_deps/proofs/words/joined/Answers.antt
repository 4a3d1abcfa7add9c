use Rattle.std.proofs.Common.{◌||◌, ap, sym, ◌∙◌, slice_index}
use Rattle.std.proofs.lemmas.List.Folds.{list_any_more}
use Rattle.blk_deps.specs.Ground.{has_bit}
use Rattle.blk_deps.proofs.WordLemmas.{has_or}
use Rattle.blk_deps.proofs.words.joined.Goals as goal

pub loop-word-preserved : goal.loop-word-preserved
loop-word-preserved c b =
    let words = c.args.words.now in
    let i = c.loop-word.word-index in
    has_or c.loop-word.all (slice_index words i) b
    ∙ ap (λ t. t || has_bit (slice_index words i) b) (c.loop-word.invariant b)
    ∙ sym (list_any_more (λ word. has_bit word b) words i 0 c.loop-word-test.true)
