use Rattle.std.proofs.Common.{◌≡◌, ◌++◌, drop}
use Rattle.asm_core.specs.Reading.Line.{target_in}
use Rattle.att_reader.proofs.line.push_targets.Given as goal

-- what is there and what is left is what the whole gives
abbrev pub invariant-loop-operand : goal.invariant-loop-operand
invariant-loop-operand l =
    l.targets.items ++ target_in l.inst (drop l.operand-index l.line.operands)
    ≡ l.initial.targets.items ++ target_in l.inst l.line.operands
