use Rattle.blk_deps.specs.Layout.{shown_value}
use Rattle.blk_deps.specs.Ruling.{some_place}
use Rattle.blk_deps.specs.declared.fact.Property.TheVariants.{Pair}
use Rattle.blk_deps.proofs.MaskLemmas.{NonePassed}
use Rattle.blk_deps.proofs.rules.uses.Uses.pair_of.Given as goal

abbrev pub invariant-loop-u : goal.invariant-loop-u
invariant-loop-u l = NonePassed l.second (λ u. some_place l.first (λ d. shown_value l.self.layout l.self.words.now
    (Pair d u))) l.start l.u
