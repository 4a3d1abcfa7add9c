use Rattle.std.proofs.Common.{◌≡◌, ◌≤◌, take}
use Rattle.att_reader.proofs.ChosenLemmas.{memory_in}
use Rattle.att_reader.proofs.chosen.memory_count.Given as goal

abbrev pub invariant-loop-operand : goal.invariant-loop-operand
invariant-loop-operand l = (l.count ≤ l.operand-index) × (l.count ≡ memory_in (take l.operand-index l.operands))
