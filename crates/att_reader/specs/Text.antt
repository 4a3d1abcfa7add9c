-- What the code of the reading of lines keeps and how it holds labels.
use Rattle.std.specs.Prelude.{ℕ, List, ◌≡◌, ◌==◌, ◌&&◌, not, Bool, true, false, Option, if◌then◌else◌, map}
use Rattle.asm_core.specs.Reading.Operands.{atom_code, comma_outside}
use Rattle.asm_core.specs.Reading.Line.{Defined, goal_of}
use Rattle.asm_core.specs.declared.reading.Atom.{Atom}
use Rattle.asm_core.specs.declared.lines.Label.{Label}
use Rattle.att_reader.specs.declared.goals.Goals.{Goals}
use Rattle.att_reader.specs.declared.text.Text.{Text}

-- the codes are those of the elements
abbrev pub IsText : Text → Type 0
IsText t = t.codes.now ≡ map atom_code t.atoms.now

-- a label as the definitions have it
abbrev pub defined : Label → Defined
defined l = (l.name, l.before)

-- where the operands of an instruction jump
abbrev pub goals_of : Goals → List ℕ → Option (Option ℕ)
goals_of g = goal_of (map defined g.labels.now) g.inst

-- what follows the code is in parentheses
abbrev pub is_inside : Bool → ℕ → Bool
is_inside inside c = if c == 40 then true else (if c == 41 then false else inside)

-- a comma outside parentheses
abbrev pub is_comma : Bool → ℕ → Bool
is_comma inside c = (c == 44) && not inside

-- how many elements stand before the first such comma
unfoldable pub operand_len : List Atom → ℕ
operand_len xs = comma_outside false (map atom_code xs)
