use Rattle.std.proofs.Common.{◌≡◌, [], drop}
use Rattle.std.specs.List.{flat_map}
use Rattle.asm_core.specs.Shape.{kind_lists, alternative_of}
use Rattle.asm_places.specs.Counts.{allowed_in}
use Rattle.asm_places.proofs.listing.kind_lists.Given as goal

abbrev pub invariant-loop-operand : goal.invariant-loop-operand
invariant-loop-operand l = flat_map (λ b. kind_lists b (allowed_in l.fn.a (drop l.operand-index l.fn.i.operands))) l.lists ≡ kind_lists [] (alternative_of l.fn.i l.fn.a)
