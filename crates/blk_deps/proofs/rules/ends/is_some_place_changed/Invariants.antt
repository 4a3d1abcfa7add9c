use Rattle.blk_deps.specs.Layout.{shown}
use Rattle.blk_deps.specs.Ruling.{some_byte}
use Rattle.blk_deps.specs.Ending.{is_changed_cell}
use Rattle.blk_deps.proofs.MaskLemmas.{NonePassed}
use Rattle.blk_deps.proofs.rules.ends.is_some_place_changed.Given as goal

abbrev pub invariant-loop-p : goal.invariant-loop-p
invariant-loop-p l = NonePassed l.chosen (some_byte (is_changed_cell (shown l.layout l.row))) l.first l.p
