use Rattle.std.proofs.Common.{◌≡◌, ℕ, take}
use Rattle.std.specs.List.{list_any}
use Rattle.blk_deps.specs.Ground.{has_bit}
use Rattle.blk_deps.proofs.words.joined.Given as goal

abbrev pub invariant-loop-word : goal.invariant-loop-word
invariant-loop-word l = (b : ℕ) → has_bit l.all b ≡ list_any (λ word. has_bit word b) (take l.word-index l.words)
