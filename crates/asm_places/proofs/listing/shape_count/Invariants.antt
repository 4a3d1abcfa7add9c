use Rattle.std.proofs.Common.{◌≡◌, min, length}
use Rattle.asm_places.proofs.ListLaws.{shapes_upto}
use Rattle.asm_places.proofs.listing.shape_count.Given as goal

abbrev pub invariant-loop-a : goal.invariant-loop-a
invariant-loop-a l = l.count ≡ min 65 (length (shapes_upto l.fn.i l.a))
