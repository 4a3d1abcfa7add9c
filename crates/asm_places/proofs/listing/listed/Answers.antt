use Rattle.std.proofs.Common.{◌≡◌, ◌++◌, length, sym, ap, ◌∙◌, arith}
use Rattle.asm_core.specs.Shape.{alternatives_of}
use Rattle.asm_places.specs.Counts.{of_alternative}
use Rattle.asm_places.proofs.ListLaws.{shapes_upto, shapes_begun, shapes_more, shapes_done}
use Rattle.asm_places.proofs.listing.listed.Goals as goal

pub loop-a-init : goal.loop-a-init
loop-a-init c = c.new-list.ensures ∙ sym (shapes_begun c.args.i.now)

pub loop-a-preserved : goal.loop-a-preserved
loop-a-preserved c = c.in_ok-push_alternative.ensures ∙ ap (λ l. l ++ of_alternative c.args.i.now c.loop-a.a) c.loop-a.invariant ∙ sym (shapes_more c.args.i.now c.loop-a.a)

pub returns : goal.returns
returns c =
    let end : c.loop-a.a ≡ length (alternatives_of c.args.i.now) = let is = c.alternative_count-a-end.ensures in omega arith in
    c.loop-a.invariant ∙ ap (shapes_upto c.args.i.now) end ∙ shapes_done c.args.i.now
