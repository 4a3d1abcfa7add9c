use Rattle.std.proofs.Common.{◌≡◌, take}
use Rattle.blk_patch.specs.Items.{operands_with}
use Rattle.blk_patch.proofs.interface.operands_with.Given as goal

abbrev pub invariant-loop-k : goal.invariant-loop-k
invariant-loop-k l = l.patched ≡ operands_with l.items 0 (take l.k l.operands)
