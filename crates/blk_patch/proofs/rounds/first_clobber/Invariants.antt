use Rattle.std.proofs.Common.{◌≡◌, drop}
use Rattle.blk_patch.specs.Rounds.{first_clobber}
use Rattle.blk_patch.proofs.rounds.first_clobber.Given as goal

-- what is left gives what the whole gives
abbrev pub invariant-loop-finding : goal.invariant-loop-finding
invariant-loop-finding l = first_clobber l.body l.patched l.items
    (drop l.finding-index l.findings) ≡ first_clobber l.body l.patched l.items l.findings
