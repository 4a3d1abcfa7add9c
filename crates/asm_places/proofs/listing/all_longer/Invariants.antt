use Rattle.std.proofs.Common.{◌≡◌, take}
use Rattle.std.specs.List.{flat_map}
use Rattle.asm_places.specs.Counts.{one_longer}
use Rattle.asm_places.proofs.listing.all_longer.Given as goal

abbrev pub invariant-loop-begun : goal.invariant-loop-begun
invariant-loop-begun l = l.longer ≡ flat_map (one_longer l.fn.allowed) (take l.begun-index l.fn.lists)
