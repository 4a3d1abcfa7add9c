use Rattle.std.proofs.Common.{◌≡◌, false, drop}
use Rattle.blk_patch.specs.Suggested.{has_high_from}
use Rattle.blk_patch.proofs.letters.has_high_letter.Given as goal

-- what is left gives what the whole gives
abbrev pub invariant-loop-byte : goal.invariant-loop-byte
invariant-loop-byte l = has_high_from l.inside (drop l.byte-index l.constraint) ≡ has_high_from false l.constraint
