use Rattle.std.proofs.Common.{◌≡◌, ◌≤◌, ◌-◌, ◌++◌, map, drop, length}
use Rattle.std.specs.List.{slice_split}
use Rattle.asm_core.specs.Constraint.{symbols_from, is_comma}
use Rattle.asm_constraints.proofs.symbol.alternatives.Given as goal

abbrev pub invariant-loop-comma : goal.invariant-loop-comma
invariant-loop-comma l = record {
  within : l.at ≤ length l.text;
  same : l.made ++ map (symbols_from l.outputs 0) (slice_split is_comma (drop l.at l.text)) ≡ map (symbols_from l.outputs 0) (slice_split is_comma l.text);
}

abbrev pub decreases-loop-comma : goal.decreases-loop-comma
decreases-loop-comma l = length l.text - l.at
