use Rattle.std.proofs.Common.{◌≡◌, take}
use Rattle.asm_core.proofs.duplicate.duplicate_items.Given as goal

-- what was copied so far
abbrev pub invariant-loop-item : goal.invariant-loop-item
invariant-loop-item g l = l.copies ≡ take l.item-index l.items
