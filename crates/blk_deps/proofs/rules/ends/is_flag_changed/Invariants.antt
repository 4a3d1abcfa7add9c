use Rattle.std.proofs.Common.{◌+◌}
use Rattle.blk_deps.specs.Layout.{shown}
use Rattle.blk_deps.specs.Ending.{is_changed_cell}
use Rattle.blk_deps.proofs.AnyLaws.{NoneBelow}
use Rattle.blk_deps.proofs.rules.ends.is_flag_changed.Given as goal

abbrev pub invariant-loop-flag : goal.invariant-loop-flag
invariant-loop-flag l = NoneBelow (λ f. is_changed_cell (shown l.layout l.row) (148 + f)) l.flag
