use Rattle.std.proofs.Common.{◌≡◌, map, take}
use Rattle.asm_core.specs.Reading.Line.{arg_of}
use Rattle.att_reader.proofs.line.sym_of.Given as goal

abbrev pub invariant-loop-operand : goal.invariant-loop-operand
invariant-loop-operand l = l.args ≡ map (arg_of l.count) (take l.operand-index l.line.operands)
