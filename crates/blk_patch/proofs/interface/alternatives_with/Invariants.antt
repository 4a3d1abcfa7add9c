use Rattle.std.proofs.Common.{◌≡◌, map, take}
use Rattle.blk_patch.specs.Items.{alternative_with}
use Rattle.blk_patch.proofs.interface.alternatives_with.Given as goal

abbrev pub invariant-loop-alternative : goal.invariant-loop-alternative
invariant-loop-alternative l = l.patched ≡ map (alternative_with l.items l.k l.output)
    (take l.alternative-index l.alternatives)
