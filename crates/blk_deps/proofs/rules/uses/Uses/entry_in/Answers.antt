use Rattle.std.proofs.Common.{◌∙◌, sym, arith}
use Rattle.blk_deps.proofs.rules.uses.Uses.entry_in.Goals.{else-has_bit-via-then-has_bit+else-entry_in_class, else-has_bit-via-else-has_bit}
use Rattle.blk_deps.proofs.MaskLemmas.{none_yet, passed_without, passed_failing, some_found, none_found}
use Rattle.blk_deps.proofs.rules.uses.Uses.entry_in.Goals as goal

pub entry_in_class-requires : goal.entry_in_class-requires
entry_in_class-requires c = c.requires.below _ (omega arith) (sym c.has_bit.ensures ∙ c.if-has_bit.true)

pub loop-p-init : goal.loop-p-init
loop-p-init c = none_yet _ _ _

pub loop-p-preserved : goal.loop-p-preserved
loop-p-preserved c = elim c.else-has_bit.branch [
  | else-has_bit-via-then-has_bit+else-entry_in_class w ↦ passed_failing _ _ _ _ (sym c.has_bit.ensures
      ∙ w.if-has_bit.true) (sym w.entry_in_class.ensures ∙ w.if-entry_in_class.false) c.loop-p.invariant
  | else-has_bit-via-else-has_bit w ↦ passed_without _ _ _ _ (sym c.has_bit.ensures
      ∙ w.if-has_bit.false) c.loop-p.invariant
]

pub returns-then-entry_in_class : goal.returns-then-entry_in_class
returns-then-entry_in_class c = sym (some_found _ _ _ (c.requires.below _ (omega arith) (sym c.has_bit.ensures
    ∙ c.if-has_bit.true)) (sym c.has_bit.ensures ∙ c.if-has_bit.true) (sym c.entry_in_class.ensures
    ∙ c.if-entry_in_class.true))

pub returns : goal.returns
returns c = sym (none_found _ _ _ _ _ c.span-first.ensures.inside c.loop-p-test.false c.loop-p.invariant)
