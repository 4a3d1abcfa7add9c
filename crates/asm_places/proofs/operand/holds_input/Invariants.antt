use Rattle.std.proofs.Common.{◌≡◌, false}
use Rattle.register_search.specs.Table.{some_below}
use Rattle.asm_places.specs.Operand.{is_input_to}
use Rattle.asm_places.proofs.operand.holds_input.Given as goal

abbrev pub invariant-loop-t : goal.invariant-loop-t
invariant-loop-t l = some_below l.t (is_input_to l.fn.i l.fn.s l.fn.k) ≡ false
