-- Each instruction of the lines of a template is of a row of the table of names, and so has the operands that its row asks for.
use Rattle.std.proofs.Common.{◌≡◌, ℕ, ◌+◌, nat_lt, List, [], ◌∷◌, map, Bool, true, false, if◌then◌else◌, Option, None, Some, Ok, Err, All, refl, subst}
use Rattle.std.proofs.lemmas.List.Elements.{All-nil, All-cons}
use Rattle.asm_core.specs.Reading.Cut.{Raw, instruction_count}
use Rattle.asm_core.specs.Reading.Line.{goal_of, line_of, place_from, readings_from, readings_of, sym_of, inst_of_reading, lines_with, lines_under, template_raws}
use Rattle.asm_core.specs.Reading.Names.{names}
use Rattle.asm_core.specs.declared.interface.Interface.{Interface}
use Rattle.asm_core.specs.declared.lines.Lines.{Lines}
use Rattle.asm_core.specs.declared.lines.LinesEnd.{LinesEnd}
use Rattle.asm_core.specs.declared.names.Prefix.{Prefix}
use Rattle.asm_core.specs.declared.piece.Piece.{Piece}
use Rattle.asm_core.specs.declared.reading.Atom.{Atom}
use Rattle.asm_core.specs.declared.reading.Line.{Line}
use Rattle.asm_core.specs.declared.reading.Reading.{Reading}
use Rattle.asm_core.specs.declared.shape.Shape.{Shape}
use Rattle.asm_core.specs.declared.sym.Sym.{Sym}
use Rattle.x86_table.proofs.NamesFit.{IsOfRow, FitsTable, line_fits, read_of_row}

-- an instruction of a line that the table of names has
pub record IsOfTable (s : Sym) : Type 0 where
  -- how many instructions come before the line's end of the block
  pub count : ℕ
  pub line : Line
  pub of_line : sym_of count line ≡ s
  pub of_row : IsOfRow line

pub fits_table : (s : Sym) → IsOfTable s → FitsTable s
fits_table s is = subst FitsTable is.of_line (line_fits is.count is.line is.of_row)

abbrev pub IsOfTableIfRead : Option Sym → Type 0
IsOfTableIfRead None = Unit {0}
IsOfTableIfRead (Some s) = IsOfTable s

module _ (count : ℕ) where
  reading_fits : (goal : List ℕ → Option (Option ℕ)) (before : List Prefix) (place : ℕ) (xs : List Atom) (r : Reading) → line_of names goal before place xs ≡ r → IsOfTableIfRead (inst_of_reading count r)
  reading_fits goal before place xs (Reading.Read l) e = record { count = count; line = l; of_line = refl; of_row = read_of_row goal before place xs l e }
  reading_fits goal before place xs Reading.LeftOut e = tt
  reading_fits goal before place xs Reading.Unread e = tt

  readings_fit : (labels : List (List ℕ × ℕ)) (n : ℕ) (raws : List (Raw Atom)) → All IsOfTableIfRead (map (inst_of_reading count) (readings_from names labels n raws))
  unfolding readings_from
  readings_fit labels n [] = All-nil IsOfTableIfRead
  readings_fit labels n (Raw.Named name ∷ raws) = readings_fit labels n raws
  readings_fit labels n (Raw.Dead from ∷ raws) = All-cons IsOfTableIfRead None (map (inst_of_reading count) (readings_from names labels (n + 1) raws)) tt (readings_fit labels (n + 1) raws)
  readings_fit labels n (Raw.Live before from body ∷ raws) =
      All-cons IsOfTableIfRead (inst_of_reading count (line_of names (goal_of labels n) before (place_from from) body)) (map (inst_of_reading count) (readings_from names labels (n + 1) raws))
      (reading_fits (goal_of labels n) before (place_from from) body (line_of names (goal_of labels n) before (place_from from) body) refl)
      (readings_fit labels (n + 1) raws)

raws_fit : (raws : List (Raw Atom)) (many : Bool) (lines : Lines) → (if many then Err LinesEnd.TooMany else Ok (lines_with raws (readings_of names raws))) ≡ Ok lines → All IsOfTableIfRead lines.insts
unfolding readings_of
raws_fit raws true lines e = cc
raws_fit raws false lines e =
    let same : lines_with raws (readings_of names raws) ≡ lines = cc in
    subst (λ (l : Lines). All IsOfTableIfRead l.insts) same (readings_fit (instruction_count raws) _ 0 raws)

-- whatever the template is
pub lines_fit : (i : Interface) (s : Shape) (ps : List Piece) (lines : Lines) → lines_under names i s ps ≡ Ok lines → All IsOfTableIfRead lines.insts
lines_fit i s ps lines e = raws_fit (template_raws i s ps) (nat_lt 512 (instruction_count (template_raws i s ps))) lines e
