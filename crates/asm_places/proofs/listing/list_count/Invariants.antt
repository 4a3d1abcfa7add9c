use Rattle.std.proofs.Common.{◌≡◌, min, take}
use Rattle.asm_places.specs.Counts.{list_count, allowed_in}
use Rattle.asm_places.proofs.listing.list_count.Given as goal

abbrev pub invariant-loop-operand : goal.invariant-loop-operand
invariant-loop-operand l = l.count ≡ min 65 (list_count (allowed_in l.fn.a (take l.operand-index l.fn.i.operands)))
