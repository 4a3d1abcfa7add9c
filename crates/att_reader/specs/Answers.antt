-- What the reader answers.
use Rattle.std.specs.Prelude.{◌≡◌, Result, Ok, Err}
use Rattle.asm_core.specs.declared.lines.Lines.{Lines}
use Rattle.asm_core.specs.declared.lines.LinesEnd.{LinesEnd}
use Rattle.asm_core.specs.declared.lines.LinesEnd.TheVariants.{TooMany, Memory}

-- The answer is the one that is meant, or memory is out.
abbrev pub GivesLines : Result Lines LinesEnd → Result Lines LinesEnd → Type 0
GivesLines (Err Memory) meant = Unit {0}
GivesLines (Err TooMany) meant = meant ≡ Err TooMany
GivesLines (Ok lines) meant = meant ≡ Ok lines
