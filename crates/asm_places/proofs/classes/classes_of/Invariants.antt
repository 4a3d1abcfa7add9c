use Rattle.std.proofs.Common.{◌≡◌, ℕ, ◌<◌, length, Some, slice_get}
use Rattle.asm_places.specs.Classes.{class_for}
use Rattle.asm_places.proofs.classes.classes_of.Given as goal

abbrev pub invariant-loop-k : goal.invariant-loop-k
invariant-loop-k l = (length l.classes ≡ 30) × ((k : ℕ) → k < l.k → slice_get l.classes k ≡ Some (class_for l.fn.i l.fn.s l.fn.goal k))
