use Rattle.std.proofs.Common.{◌≡◌, min, length, refl, ap, ◌∙◌, arith}
use Rattle.asm_core.specs.Shape.{alternative_of, alternatives_of}
use Rattle.asm_places.specs.Counts.{list_count}
use Rattle.asm_places.proofs.ListLaws.{upto, cut_sum, shapes_upto, shapes_counted, shapes_done}
use Rattle.asm_places.proofs.listing.shape_count.Goals as goal

pub loop-a-init : goal.loop-a-init
unfolding upto
loop-a-init c = refl

pub loop-a-preserved : goal.loop-a-preserved
loop-a-preserved c = cut_sum c.loop-a.count c.list_count.result (length (shapes_upto c.args.i.now c.loop-a.a)) (list_count (alternative_of c.args.i.now c.loop-a.a)) _ c.min-count.result
    c.min-count.ensures c.loop-a.invariant c.list_count.ensures
    (shapes_counted c.args.i.now c.requires c.loop-a.a (let is = c.alternative_count-a-end.ensures in let lt = c.loop-a-test.true in omega arith))

pub returns : goal.returns
returns c =
    let end : c.loop-a.a ≡ length (alternatives_of c.args.i.now) = let is = c.alternative_count-a-end.ensures in omega arith in
    c.loop-a.invariant ∙ ap (λ n. min 65 (length (shapes_upto c.args.i.now n))) end ∙ ap (λ l. min 65 (length l)) (shapes_done c.args.i.now)
