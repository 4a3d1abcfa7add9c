use Rattle.std.proofs.Common.{length, refl, ap, arith}
use Rattle.asm_constraints.proofs.OperandLemmas.{length-first, operands-both}
use Rattle.asm_constraints.proofs.operand.constrained_operands.Goals as goal

pub append-requires-2-clause-room : goal.append-requires-2-clause-room
append-requires-2-clause-room c =
    let counted = length-first c.args.types.now _ c.args.parts.now.outputs c.as_slice.result.now c.new-made.result c.append.new.made c.new-made.ensures c.as_slice.ensures c.in_ok-append.ensures in
    omega (arith, counted, ap length c.as_slice-2.ensures)

pub returns : goal.returns
returns c = operands-both c.args.types.now c.args.parts.now c.args.names.now _ c.len.result c.as_slice.result.now c.as_slice-2.result.now c.new-made.result c.append.new.made c.append-2.new.made
    c.requires.names c.len.ensures refl c.new-made.ensures c.as_slice.ensures c.in_ok-append.ensures c.as_slice-2.ensures c.in_ok-append-2.ensures
