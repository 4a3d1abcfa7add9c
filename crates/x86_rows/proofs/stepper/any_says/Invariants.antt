use Rattle.std.proofs.Common.{◌≡◌, drop}
use Rattle.asm_core.specs.MicroOps.{any_value}
use Rattle.x86_rows.specs.Control.{kind_of, test_of}
use Rattle.x86_rows.proofs.stepper.any_says.Given as goal

abbrev pub invariant-loop-k : goal.invariant-loop-k
invariant-loop-k l = any_value (kind_of l.control) (test_of l.control) l.row 0 l.values ≡ any_value (kind_of l.control) (test_of l.control) (drop l.k l.row) l.k l.values
