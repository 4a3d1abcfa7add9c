use Rattle.std.proofs.Common.{◌≡◌, map, take}
use Rattle.asm_core.specs.Company.{all_places}
use Rattle.blk_check.proofs.differing.places_under.Given as goal

abbrev pub invariant-loop-shape : goal.invariant-loop-shape
invariant-loop-shape l = l.places ≡ map (all_places l.fn.interface) (take l.shape-index l.shapes)
