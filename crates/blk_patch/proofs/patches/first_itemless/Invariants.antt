use Rattle.std.proofs.Common.{◌≡◌, drop, find}
use Rattle.blk_patch.specs.Rounds.{has_no_item}
use Rattle.blk_patch.proofs.patches.first_itemless.Given as goal

-- what is left gives what the whole gives
abbrev pub invariant-loop-finding : goal.invariant-loop-finding
invariant-loop-finding l = find (has_no_item l.body l.patched) (drop l.finding-index l.findings) ≡ find
    (has_no_item l.body l.patched) l.findings
