-- Which values of a row say how a step goes on.
use Rattle.std.specs.Prelude.{ℕ, Bool}
use Rattle.asm_core.specs.MicroOps.{is_jump, is_stay, is_turn, is_divide, is_zero, is_set}
use Rattle.asm_core.specs.declared.micro_op.Target.{Target}
use Rattle.x86_rows.specs.declared.stepper.Control.{Control}

abbrev pub kind_of : Control → Target → Bool
kind_of Control.Over = is_turn
kind_of Control.Divide = is_divide
kind_of Control.Jump = is_jump
kind_of Control.Stay = is_stay

abbrev pub test_of : Control → ℕ → Bool
test_of Control.Over = is_zero
test_of Control.Divide = is_set
test_of Control.Jump = is_set
test_of Control.Stay = is_set
