use Rattle.std.proofs.Common.{◌≡◌, [], take, drop}
use Rattle.asm_core.specs.Pieces.{first_outside}
use Rattle.asm_template.proofs.template.first_outside.Given as goal

-- what is left gives what the whole gives
abbrev pub invariant-loop-k : goal.invariant-loop-k
invariant-loop-k l = first_outside (take l.k l.codes) (drop l.k l.forms) (drop l.k l.marks) ≡ first_outside [] l.forms l.marks
