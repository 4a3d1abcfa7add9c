use Rattle.std.proofs.Common.{◌∙◌, sym}
use Rattle.blk_deps.proofs.AnyLaws.{none_at_first, none_so_far}
use Rattle.blk_deps.proofs.EndLemmas.{flag_found, no_flag}
use Rattle.blk_deps.proofs.rules.ends.is_flag_changed.Goals as goal

pub loop-flag-init : goal.loop-flag-init
loop-flag-init c = none_at_first _

pub loop-flag-preserved : goal.loop-flag-preserved
loop-flag-preserved c = none_so_far _ _ (sym c.is_changed.ensures ∙ c.if-is_changed.false) c.loop-flag.invariant

pub returns-then-is_changed : goal.returns-then-is_changed
returns-then-is_changed c = sym (flag_found _ c.loop-flag.flag c.loop-flag-test.true (sym c.is_changed.ensures
    ∙ c.if-is_changed.true))

pub returns : goal.returns
returns c = sym (no_flag _ _ c.loop-flag-test.false c.loop-flag.invariant)
