use Rattle.blk_deps.specs.Layout.{shown_value}
use Rattle.blk_deps.specs.Ruling.{some_byte, from_class}
use Rattle.blk_deps.proofs.MaskLemmas.{NonePassed}
use Rattle.blk_deps.proofs.rules.uses.Uses.entry_in.Given as goal

abbrev pub invariant-loop-p : goal.invariant-loop-p
invariant-loop-p l = NonePassed l.chosen (some_byte (from_class l.class
    (shown_value l.self.layout l.self.words.now))) l.first l.p
