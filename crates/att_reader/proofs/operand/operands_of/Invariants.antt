use Rattle.std.proofs.Common.{◌≡◌}
use Rattle.asm_core.specs.Reading.Operands.{all_some, operands_of}
use Rattle.att_reader.specs.Text.{IsText, goals_of}
use Rattle.att_reader.proofs.OperandLemmas.{operands_behind}
use Rattle.att_reader.proofs.operand.operands_of.Given as goal

-- those that are there and those that are left are all
abbrev pub invariant-loop-left : goal.invariant-loop-left
invariant-loop-left l =
    let goal = goals_of l.goals in
    IsText l.rest
    × (operands_behind goal l.operands l.left l.rest.atoms.now ≡ all_some (operands_of goal l.text.atoms.now))

abbrev pub decreases-loop-left : goal.decreases-loop-left
decreases-loop-left l = l.left
