-- Lines that are short, one of several.
use Rattle.std.proofs.Common.{List, ◌∷◌, All}
use Rattle.std.proofs.lemmas.List.Elements.{All-head}
use Rattle.asm_core.specs.declared.lines.Lines.{Lines}
use Rattle.blk_check.specs.Readable.{IsShort}

pub first_short : (x : Lines) (xs : List Lines) → All IsShort (x ∷ xs) → IsShort x
first_short x xs short = All-head IsShort x xs short
