use Rattle.std.proofs.Common.{◌≡◌, length, map, take}
use Rattle.asm_core.specs.MicroOps.{destination_of}
use Rattle.asm_core.specs.declared.micro_op.MicroOp.{MicroOp}
use Rattle.x86_rows.proofs.stepper.destinations.Given as goal

abbrev pub invariant-loop-op : goal.invariant-loop-op
invariant-loop-op l = (length l.destinations.items ≡ l.op-index) × (l.destinations.items ≡ map (λ (op : MicroOp). destination_of l.i l.m op.target) (take l.op-index l.row))
