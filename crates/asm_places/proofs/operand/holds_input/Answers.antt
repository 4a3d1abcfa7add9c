use Rattle.std.proofs.Common.{◌≡◌, length, refl, sym, ap, ◌∙◌, arith}
use Rattle.std.proofs.lemmas.Bool.{or_from}
use Rattle.register_search.specs.Table.{some_below}
use Rattle.register_search.proofs.Sets.{some_below-more}
use Rattle.register_search.proofs.Placing.{some_from}
use Rattle.asm_places.specs.Operand.{is_input_to}
use Rattle.asm_places.proofs.operand.holds_input.Goals as goal

pub loop-t-init : goal.loop-t-init
unfolding some_below
loop-t-init c = refl

pub returns-then-is_input_to : goal.returns-then-is_input_to
returns-then-is_input_to c = sym (some_from (length c.args.i.now.operands) (is_input_to c.args.i.now c.args.s.now c.args.k) c.loop-t.t (let end = c.len-t-end.ensures in let lt = c.loop-t-test.true in omega arith) (sym c.is_input_to.ensures ∙ c.if-is_input_to.true))

pub loop-t-preserved : goal.loop-t-preserved
loop-t-preserved c = some_below-more c.loop-t.t (is_input_to c.args.i.now c.args.s.now c.args.k) ∙ or_from _ _ c.loop-t.invariant (sym c.is_input_to.ensures ∙ c.if-is_input_to.false)

pub returns : goal.returns
returns c =
    let end : c.loop-t.t ≡ length c.args.i.now.operands = let is = c.len-t-end.ensures in omega arith in
    sym c.loop-t.invariant ∙ ap (λ n. some_below n (is_input_to c.args.i.now c.args.s.now c.args.k)) end
