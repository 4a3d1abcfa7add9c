use Rattle.std.proofs.Common.{◌∙◌, sym, arith}
use Rattle.blk_deps.proofs.AnyLaws.{none_at_first, none_so_far}
use Rattle.blk_deps.proofs.EndLemmas.{left_bit, left_found, none_left}
use Rattle.blk_deps.proofs.rules.ends.is_some_left.Goals as goal

pub loop-b-init : goal.loop-b-init
loop-b-init c = none_at_first _

pub loop-b-preserved : goal.loop-b-preserved
loop-b-preserved c = none_so_far _ _ (sym
    (left_bit c.args.layout.now c.args.row.now c.args.k c.loop-b.b c.requires.operand (omega arith))
    ∙ sym c.has_fact.ensures ∙ c.if-has_fact.false) c.loop-b.invariant

pub returns-then-has_fact : goal.returns-then-has_fact
returns-then-has_fact c = sym (left_found c.args.layout.now c.args.row.now c.args.k c.loop-b.b c.args.count
    (omega arith)
    (sym (left_bit c.args.layout.now c.args.row.now c.args.k c.loop-b.b c.requires.operand (omega arith))
    ∙ sym c.has_fact.ensures ∙ c.if-has_fact.true))

pub returns : goal.returns
returns c = sym (none_left c.args.layout.now c.args.row.now c.args.k c.args.count c.loop-b.b c.requires.row
    c.requires.operand (λ b lt within. omega arith) c.loop-b.invariant)
