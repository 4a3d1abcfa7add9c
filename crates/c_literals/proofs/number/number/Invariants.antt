use Rattle.std.proofs.Common.{◌≡◌, ◌<◌, drop}
use Rattle.c_literals.specs.Digits.{number}
use Rattle.c_literals.proofs.NumberLemmas.{number_behind}
use Rattle.c_literals.proofs.number.number.Given as goal

-- what was read and what is left give what the whole gives
abbrev pub invariant-loop-digit : goal.invariant-loop-digit
invariant-loop-digit l = record { small : l.value < 18446744073709551616; same : number_behind l.base l.value (drop l.digit-index l.digits) ≡ number l.base l.digits }
