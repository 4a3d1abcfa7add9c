-- Labels that are numbers.
use Rattle.std.specs.Prelude.{ℕ, List, map, Option, Some, None, if◌then◌else◌}
use Rattle.std.specs.Str.Parse.{digits_value}
use Rattle.asm_core.specs.Reading.Cut.{is_number_label}
use Rattle.asm_core.specs.Reading.Line.{Defined}
use Rattle.asm_core.specs.declared.lines.Label.{Label}

-- the number that a label is
abbrev pub label_number : List ℕ → Option ℕ
label_number w = if is_number_label w then Some (digits_value 10 w) else None

-- labels as the program has them
abbrev pub labelled : List Defined → List Label
labelled ls = map (λ (l : Defined). record { name = l.0; before = l.1 }) ls
