use Rattle.std.proofs.Common.{◌≡◌, ◌+◌, length, sym, subst, ◌∙◌}
use Rattle.std.proofs.lemmas.List.{with_items_is}
use Rattle.blk_deps.specs.Heads.{AreHeadsTo, MarksHeads}
use Rattle.blk_deps.proofs.HeadLemmas.{begun, marks_on}
use Rattle.blk_deps.proofs.blocks.mark_all.Goals as goal

pub loop-at-init : goal.loop-at-init
loop-at-init c = begun c.args.graph.now c.in_ok-heads.heads.items c.len-size.result c.len-size.ensures
    (sym c.in_ok-heads.heads.ok.0 ∙ c.in_ok-heads.ensures.len)

pub loop-at-preserved : goal.loop-at-preserved
loop-at-preserved c =
    let g = c.args.graph.now in
    let heads = c.loop-at.heads in
    let new = c.mark_heads.new.heads in
    let long : length new ≡ heads.len = c.mark_heads.auto.heads ∙ c.deref_mut.ensures.len in
    let marks = subst (λ old. MarksHeads g c.loop-at.at old new) c.deref_mut.ensures.value c.mark_heads.ensures in
    subst (AreHeadsTo g (c.loop-at.at + 1)) (sym (with_items_is heads new long))
    (marks_on g c.loop-at.at _ new c.loop-at.invariant marks)
