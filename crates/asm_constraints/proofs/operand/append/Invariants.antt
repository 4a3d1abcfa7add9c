use Rattle.std.proofs.Common.{◌≡◌, ◌+◌, ◌++◌, drop, length}
use Rattle.asm_core.specs.Constraint.{constrained_from}
use Rattle.asm_constraints.proofs.operand.append.Given as goal

abbrev pub invariant-loop-part : goal.invariant-loop-part
invariant-loop-part l = record {
  counted : length l.made ≡ length l.fn.made + l.part-index;
  same : l.made ++ constrained_from l.outputs l.types (length l.made) (drop l.part-index l.parts) ≡ l.fn.made ++ constrained_from l.outputs l.types (length l.fn.made) l.parts;
}
