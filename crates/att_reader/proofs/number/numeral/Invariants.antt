use Rattle.std.proofs.Common.{◌≡◌, ◌≤◌, drop}
use Rattle.att_reader.proofs.NumberLemmas.{value_behind}
use Rattle.att_reader.proofs.number.numeral.Given as goal

-- what is left gives what the whole gives
abbrev pub invariant-loop-digit : goal.invariant-loop-digit
invariant-loop-digit l =
    (l.value ≤ l.limit)
    × (value_behind l.radix l.limit l.value (drop l.digit-index l.digits) ≡ value_behind l.radix l.limit 0 l.digits)
