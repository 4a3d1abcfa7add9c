use Rattle.std.proofs.Common.{◌≡◌, ◌<◌, Some, drop}
use Rattle.c_literals.specs.Literals.{added, total_length}
use Rattle.c_literals.proofs.string.concatenated_length.Given as goal

-- what was added and what is left give what the whole gives
abbrev pub invariant-loop-token : goal.invariant-loop-token
invariant-loop-token l = record { small : l.total < 4294967296; same : added (Some l.total) (total_length l.text (drop l.token-index l.tokens)) ≡ total_length l.text l.tokens }
