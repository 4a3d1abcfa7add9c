use Rattle.std.proofs.Common.{◌≡◌, length, drop}
use Rattle.asm_core.specs.MicroOps.{values_of, values_from, read_in}
use Rattle.x86_rows.proofs.stepper.values.Given as goal

abbrev pub invariant-loop-op : goal.invariant-loop-op
invariant-loop-op l = (length l.values.items ≡ l.op-index) × (values_of l.line.inst.now.width (read_in l.line.inst.now l.line.choice l.line.words.now l.m) l.row ≡ values_from l.line.inst.now.width (read_in l.line.inst.now l.line.choice l.line.words.now l.m) (drop l.op-index l.row) l.values.items)
