use Rattle.std.proofs.Common.{◌≡◌, drop}
use Rattle.blk_patch.specs.Rounds.{first_new}
use Rattle.blk_patch.proofs.rounds.first_new.Given as goal

-- what is left gives what the whole gives
abbrev pub invariant-loop-finding : goal.invariant-loop-finding
invariant-loop-finding l = first_new l.body l.patched l.items
    (drop l.finding-index l.findings) ≡ first_new l.body l.patched l.items l.findings
