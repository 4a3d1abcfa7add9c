use Rattle.std.proofs.Common.{◌∙◌, sym, arith}
use Rattle.blk_deps.proofs.MaskLemmas.{none_yet, passed_without, passed_failing, some_found, none_found}
use Rattle.blk_deps.proofs.rules.uses.Uses.pair_of.Goals.{else-has_bit-via-then-has_bit+else-pair_with, else-has_bit-via-else-has_bit}
use Rattle.blk_deps.proofs.rules.uses.Uses.pair_of.Goals as goal

pub pair_with-requires-clause-place : goal.pair_with-requires-clause-place
pair_with-requires-clause-place c = c.requires.second.below _ (omega arith) (sym c.has_bit.ensures ∙ c.if-has_bit.true)

pub loop-u-init : goal.loop-u-init
loop-u-init c = none_yet _ _ _

pub loop-u-preserved : goal.loop-u-preserved
loop-u-preserved c = elim c.else-has_bit.branch [
  | else-has_bit-via-then-has_bit+else-pair_with w ↦ passed_failing _ _ _ _ (sym c.has_bit.ensures
      ∙ w.if-has_bit.true) (sym w.pair_with.ensures ∙ w.if-pair_with.false) c.loop-u.invariant
  | else-has_bit-via-else-has_bit w ↦ passed_without _ _ _ _ (sym c.has_bit.ensures
      ∙ w.if-has_bit.false) c.loop-u.invariant
]

pub returns-then-pair_with : goal.returns-then-pair_with
returns-then-pair_with c =
    let here = sym c.has_bit.ensures ∙ c.if-has_bit.true in
    sym (some_found _ _ _ (let below = c.requires.second.below _ (omega arith) here in
    omega (arith, below, c.args.self.now.fits.operands)) here (sym c.pair_with.ensures ∙ c.if-pair_with.true))

pub returns : goal.returns
returns c = sym (none_found _ _ _ _ _ c.span-start.ensures.inside c.loop-u-test.false c.loop-u.invariant)
