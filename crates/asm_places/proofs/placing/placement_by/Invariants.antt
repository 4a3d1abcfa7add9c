use Rattle.std.proofs.Common.{◌≡◌, ℕ, pos, ◌<◌, length, slice_index_or}
use Rattle.asm_core.specs.Placement.{tie_root}
use Rattle.asm_core.specs.declared.placement.Spot.{Spot}
use Rattle.asm_places.specs.Operand.{operand_in}
use Rattle.asm_places.specs.Placing.{left_in, spot_for}
use Rattle.asm_places.proofs.placing.placement_by.Given as goal

abbrev pub invariant-loop-k : goal.invariant-loop-k
invariant-loop-k l = (length l.spots ≡ 30) × ((k : ℕ) → k < l.k → slice_index_or l.spots k (Spot.Number (pos 0))
    ≡ spot_for l.fn.goal (tie_root l.fn.i l.fn.s k) (operand_in l.fn.i l.fn.s (tie_root l.fn.i l.fn.s k)) (left_in l.fn.classes (tie_root l.fn.i l.fn.s k)))
