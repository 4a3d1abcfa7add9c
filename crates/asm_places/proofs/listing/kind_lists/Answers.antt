use Rattle.std.proofs.Common.{◌≡◌, ◌<◌, ◌≤◌, ◌+◌, [], List, length, drop, get_or, subst, ap, ◌∙◌}
use Rattle.std.specs.List.{flat_map}
use Rattle.asm_core.specs.Shape.{kind_lists, alternative_of}
use Rattle.asm_core.specs.declared.shape.Kind.{Kind}
use Rattle.asm_core.specs.declared.interface.OperandIface.{OperandIface}
use Rattle.asm_places.specs.Counts.{allowed_in}
use Rattle.asm_places.proofs.ListLaws.{lists_more, lists_done}
use Rattle.asm_places.proofs.listing.kind_lists.Goals as goal

pub loop-operand-preserved : goal.loop-operand-preserved
loop-operand-preserved c =
    let items = c.as_slice-operand-items.ensures in
    let k = c.loop-operand.operand-index in
    ap (λ (l : List (List Kind)). flat_map (λ b. kind_lists b (allowed_in c.args.a (drop (k + 1) c.args.i.now.operands))) l) c.in_ok-lists.ensures
    ∙ lists_more c.args.a c.args.i.now.operands k c.operand-item.result c.allowed_in.result c.loop-operand.lists (kind_lists [] (alternative_of c.args.i.now c.args.a))
    (subst (λ (l : List OperandIface). k < length l) items c.loop-operand-test.true)
    (subst (λ (l : List OperandIface). c.operand-item.result ≡ get_or l k c.operand-item.result) items c.operand-item.is) c.allowed_in.ensures c.loop-operand.invariant

pub returns : goal.returns
returns c = lists_done c.args.a c.args.i.now.operands c.loop-operand.operand-index c.loop-operand.lists (kind_lists [] (alternative_of c.args.i.now c.args.a))
    (subst (λ (l : List OperandIface). length l ≤ c.loop-operand.operand-index) c.as_slice-operand-items.ensures c.loop-operand-test.false) c.loop-operand.invariant
