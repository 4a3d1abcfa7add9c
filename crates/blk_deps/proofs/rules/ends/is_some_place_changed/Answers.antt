use Rattle.std.proofs.Common.{◌∙◌, sym, arith}
use Rattle.blk_deps.proofs.rules.ends.is_some_place_changed.Goals.{else-has_bit-via-then-has_bit+else-is_place_changed, else-has_bit-via-else-has_bit}
use Rattle.blk_deps.proofs.MaskLemmas.{none_yet, passed_without, passed_failing, some_found, none_found}
use Rattle.blk_deps.proofs.rules.ends.is_some_place_changed.Goals as goal

pub is_place_changed-requires-clause-place : goal.is_place_changed-requires-clause-place
is_place_changed-requires-clause-place c = c.requires.mask.below _ (omega arith) (sym c.has_bit.ensures
    ∙ c.if-has_bit.true)

pub loop-p-init : goal.loop-p-init
loop-p-init c = none_yet _ _ _

pub loop-p-preserved : goal.loop-p-preserved
loop-p-preserved c = elim c.else-has_bit.branch [
  | else-has_bit-via-then-has_bit+else-is_place_changed w ↦ passed_failing _ _ _ _ (sym c.has_bit.ensures
      ∙ w.if-has_bit.true) (sym w.is_place_changed.ensures ∙ w.if-is_place_changed.false) c.loop-p.invariant
  | else-has_bit-via-else-has_bit w ↦ passed_without _ _ _ _ (sym c.has_bit.ensures
      ∙ w.if-has_bit.false) c.loop-p.invariant
]

pub returns-then-is_place_changed : goal.returns-then-is_place_changed
returns-then-is_place_changed c = sym (some_found _ _ _ (c.requires.mask.below _ (omega arith)
    (sym c.has_bit.ensures ∙ c.if-has_bit.true)) (sym c.has_bit.ensures
    ∙ c.if-has_bit.true) (sym c.is_place_changed.ensures ∙ c.if-is_place_changed.true))

pub returns : goal.returns
returns c = sym (none_found _ _ _ _ _ c.span-first.ensures.inside c.loop-p-test.false c.loop-p.invariant)
