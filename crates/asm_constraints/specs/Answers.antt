-- What an answer says of the definition's value, memory aside.
use Rattle.std.specs.Prelude.{◌≡◌, Result, Ok, Err}
use Rattle.asm_core.specs.Pieces.{Scan, Outside as ScanOutside, Scanned as ScanScanned}
use Rattle.asm_core.specs.declared.mark.MarkKind.{MarkKind}
use Rattle.asm_core.specs.declared.interface.Interface.{Interface}
use Rattle.asm_core.specs.declared.interface.IfaceEnd.{IfaceEnd}
use Rattle.asm_core.specs.declared.interface.IfaceEnd.TheVariants as ends
use Rattle.asm_template.specs.declared.template.Scanned.{Scanned}

abbrev pub GivesInterface : Result Interface IfaceEnd → Result Interface IfaceEnd → Type 0
GivesInterface (Ok i) wanted = wanted ≡ Ok i
GivesInterface (Err (ends.Outside mark)) wanted = wanted ≡ Err (ends.Outside mark)
GivesInterface (Err (ends.Broken findings)) wanted = wanted ≡ Err (ends.Broken findings)
GivesInterface (Err ends.Memory) wanted = Unit {0}

abbrev pub GivesTemplate : Result Scanned IfaceEnd → Scan → Type 0
GivesTemplate (Ok s) read = read ≡ ScanScanned s.pieces.list s.missing
GivesTemplate (Err (ends.Outside mark)) read = (mark.kind ≡ MarkKind.Template) × (read ≡ ScanOutside mark.place)
GivesTemplate (Err (ends.Broken findings)) read = ⊥
GivesTemplate (Err ends.Memory) read = Unit {0}
