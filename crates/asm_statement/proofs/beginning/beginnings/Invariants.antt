use Rattle.std.proofs.Common.{◌≡◌, ◌++◌, drop}
use Rattle.asm_statement.specs.Beginnings.{beginnings_from, beginnings_of}
use Rattle.asm_statement.proofs.beginning.beginnings.Given as goal

-- what was found, and what is left, are what the whole gives
abbrev pub invariant-loop-i : goal.invariant-loop-i
invariant-loop-i l = l.list.items ++ beginnings_from l.text l.opened.items l.before l.i (drop l.i l.tokens)
    ≡ beginnings_of l.text l.tokens
