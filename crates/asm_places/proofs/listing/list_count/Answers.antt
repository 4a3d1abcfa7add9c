use Rattle.std.proofs.Common.{◌≡◌, ◌<◌, List, length, get_or, refl, subst, ◌∙◌}
use Rattle.asm_core.specs.declared.interface.OperandIface.{OperandIface}
use Rattle.asm_places.specs.Counts.{list_count}
use Rattle.asm_places.proofs.ListLaws.{count_more}
use Rattle.asm_places.proofs.listing.list_count.Goals as goal

pub loop-operand-init : goal.loop-operand-init
unfolding list_count
loop-operand-init c = refl

pub loop-operand-preserved : goal.loop-operand-preserved
loop-operand-preserved c =
    let items = c.as_slice-operand-items.ensures in
    let k = c.loop-operand.operand-index in
    c.count_with-count.ensures
    ∙ count_more c.args.a c.args.i.now.operands k c.operand-item.result c.allowed_in.result c.loop-operand.count (subst (λ (l : List OperandIface). k < length l) items c.loop-operand-test.true)
    (subst (λ (l : List OperandIface). c.operand-item.result ≡ get_or l k c.operand-item.result) items c.operand-item.is) c.allowed_in.ensures c.loop-operand.invariant
