use Rattle.std.proofs.Common.{◌≡◌, ℕ, take}
use Rattle.std.specs.List.{list_any}
use Rattle.dataflow.specs.Bits.{facts_in}
use Rattle.blk_deps.specs.Fits.{hand_words}
use Rattle.blk_deps.proofs.value.collect_used.Given as goal

abbrev pub invariant-loop-h : goal.invariant-loop-h
invariant-loop-h l = (n : ℕ) → facts_in l.to n ≡ list_any (λ h. facts_in (hand_words l.layout l.hands h) n) (take l.h-index l.used)
