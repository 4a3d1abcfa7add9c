use Rattle.std.proofs.Common.{◌≡◌, ◌≤◌, ◌-◌, ◌++◌, drop, length}
use Rattle.asm_core.specs.Constraint.{symbols_from}
use Rattle.asm_constraints.proofs.symbol.symbols.Given as goal

abbrev pub invariant-loop-at : goal.invariant-loop-at
invariant-loop-at l = record {
  within : l.at ≤ length l.text;
  same : l.made ++ symbols_from l.outputs 0 (drop l.at l.text) ≡ symbols_from l.outputs 0 l.text;
}

abbrev pub decreases-loop-at : goal.decreases-loop-at
decreases-loop-at l = length l.text - l.at
