use Rattle.std.proofs.Common.{◌≡◌, Ok, drop}
use Rattle.asm_core.specs.Expansion.{expansion_with, onto_text}
use Rattle.asm_template.proofs.expansion.signs.Given as goal

-- what is there, and what is left, are the text of the whole
abbrev pub invariant-loop-k : goal.invariant-loop-k
invariant-loop-k l =
    onto_text (Ok l.signs.items) (expansion_with l.placed.interface.now l.placed.placement.now l.placed.unique (drop l.k l.pieces) (drop l.k l.marks))
    ≡ expansion_with l.placed.interface.now l.placed.placement.now l.placed.unique l.pieces l.marks
