use Rattle.std.proofs.Common.{◌≡◌}
use Rattle.asm_places.proofs.ListLaws.{shapes_upto}
use Rattle.asm_places.proofs.listing.listed.Given as goal

abbrev pub invariant-loop-a : goal.invariant-loop-a
invariant-loop-a l = l.list ≡ shapes_upto l.fn.i l.a
