-- What an answer says of the definition's value, memory aside.
use Rattle.std.specs.Prelude.{◌≡◌, ℕ, List, Result, Ok, Err}
use Rattle.asm_core.specs.declared.mark.MarkKind.TheVariants.{Template}
use Rattle.asm_core.specs.declared.piece.Piece.{Piece}
use Rattle.asm_core.specs.declared.piece.Pieces.{Pieces}
use Rattle.asm_core.specs.declared.piece.PiecesEnd.{PiecesEnd}
use Rattle.asm_core.specs.declared.piece.PiecesEnd.TheVariants as pieces_ends
use Rattle.asm_core.specs.Pieces.{Scan}
use Rattle.asm_core.specs.Pieces.Scan.{Outside as ScanOutside, Scanned as ScanScanned}
use Rattle.asm_core.specs.Expansion.{onto_text}
use Rattle.asm_core.specs.declared.reading.Sign.{Sign}
use Rattle.asm_template.specs.declared.expand_end.ExpandEnd.{ExpandEnd}
use Rattle.asm_template.specs.declared.expand_end.ExpandEnd.TheVariants as expand_ends
use Rattle.asm_template.specs.declared.expansion.Expanded.{Expanded}
use Rattle.asm_template.specs.declared.scan_end.ScanEnd.{ScanEnd}
use Rattle.asm_template.specs.declared.scan_end.ScanEnd.TheVariants as scan_ends
use Rattle.asm_template.specs.declared.template.Scanned.{Scanned}

abbrev pub FailsScan : ScanEnd → Scan → Type 0
FailsScan (scan_ends.Outside mark) read = (mark.kind ≡ Template) × (read ≡ ScanOutside mark.place)
FailsScan scan_ends.Memory read = Unit {0}

abbrev pub GivesScan : Result Scanned ScanEnd → Scan → Type 0
GivesScan (Ok s) read = read ≡ ScanScanned s.pieces.list s.missing
GivesScan (Err e) read = FailsScan e read

abbrev pub FailsPieces : PiecesEnd → Result (List Piece) PiecesEnd → Type 0
FailsPieces (pieces_ends.Outside mark) read = read ≡ Err (pieces_ends.Outside mark)
FailsPieces pieces_ends.NoOperand read = read ≡ Err pieces_ends.NoOperand
FailsPieces pieces_ends.Memory read = Unit {0}

abbrev pub GivesPieces : Result Pieces PiecesEnd → Result (List Piece) PiecesEnd → Type 0
GivesPieces (Ok p) read = read ≡ Ok p.list
GivesPieces (Err e) read = FailsPieces e read

abbrev pub pieces_end : ScanEnd → PiecesEnd
pieces_end (scan_ends.Outside mark) = pieces_ends.Outside mark
pieces_end scan_ends.Memory = pieces_ends.Memory

abbrev pub FailsText : ExpandEnd → Result (List Sign) ℕ → Type 0
FailsText (expand_ends.NoName k) text = text ≡ Err k
FailsText expand_ends.Memory text = Unit {0}

abbrev pub GivesText : Result Expanded ExpandEnd → Result (List Sign) ℕ → Type 0
GivesText (Ok e) text = text ≡ Ok e.text
GivesText (Err e) text = FailsText e text

-- what is there before and after a text was appended, if it exists
abbrev pub AppendsText : List Sign → List Sign → Result (Unit {0}) ExpandEnd → Result (List Sign) ℕ → Type 0
AppendsText before after (Ok u) text = onto_text (Ok before) text ≡ Ok after
AppendsText before after (Err e) text = FailsText e text
