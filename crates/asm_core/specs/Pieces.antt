-- The pieces of a template, as the assembler gets them in the first dialect (GCC manual, "Extended Asm"). What may stand
-- beside an operand and around `%=` is this project's own rule: an operand is then a whole part of the line.
use Rattle.std.specs.Prelude.{◌<◌, ℕ, Bool, true, false, List, [], ◌∷◌, ◌++◌, ◌-◌, ◌==◌, ◌||◌, ◌&&◌, not, IsTrue, if◌then◌else◌, Option, Some, None, Result, Ok, Err, length, map, max, take, slice_index, option_map, filter_map, All}
use Rattle.std.specs.List.{list_any, suffix_len}
use Rattle.asm_core.specs.declared.mark.MarkKind.TheVariants.{Template}
use Rattle.asm_core.specs.declared.piece.Modifier.{Modifier}
use Rattle.asm_core.specs.declared.piece.Modifier.TheVariants.{C}
use Rattle.asm_core.specs.declared.piece.Piece.{Piece}
use Rattle.asm_core.specs.declared.piece.Piece.TheVariants as pieces
use Rattle.asm_core.specs.declared.piece.PiecesEnd.{PiecesEnd}
use Rattle.asm_core.specs.declared.piece.PiecesEnd.TheVariants as ends
use Rattle.asm_core.specs.declared.statement.Quoted.{Quoted}
use Rattle.asm_core.specs.declared.template_form.TemplateForm.{TemplateForm}
use Rattle.asm_core.specs.declared.template_form.TemplateForm.TheVariants as forms
use Rattle.asm_core.specs.Comments.{is_one_of, comments_of, uncommented}
use Rattle.asm_core.specs.TemplateForms.{is_digit, is_letter, forms_of}

-- What each form is among bytes: 0 an operand, 1 `%=`; the bytes below 2, which mean nothing, count as 2, and so does what
-- is outside.
abbrev pub form_code : TemplateForm → ℕ
form_code (forms.Byte b at) = max b 2
form_code (forms.Hole k m at) = 0
form_code (forms.Unique at) = 1
form_code (forms.Outside at) = 2

abbrev pub piece_code : Piece → ℕ
piece_code (pieces.Byte b at) = max b 2
piece_code (pieces.Hole k m at) = 0
piece_code (pieces.Unique at) = 1

abbrev pub is_bare : Modifier → Bool
is_bare C = true
is_bare m = false

-- What an operand may stand directly behind: the beginning, blank, tab, newline, `;`, `:`, `,`, `(`, and with `%c` also `$`.
-- The codes are all those before it.
abbrev pub may_precede : Modifier → List ℕ → Bool
may_precede m before =
    let c = slice_index before (length before - 1) in
    (length before == 0) || is_one_of (32 ∷ 9 ∷ 10 ∷ 59 ∷ 58 ∷ 44 ∷ 40 ∷ []) c || (is_bare m && (c == 36))

-- What may stand directly behind an operand: the end, blank, tab, newline, `;`, `,`, `)`, `#`, and with `%c` also `(`.
abbrev pub may_follow : Modifier → List ℕ → Bool
may_follow m after =
    let c = slice_index after 0 in
    (length after == 0) || is_one_of (32 ∷ 9 ∷ 10 ∷ 59 ∷ 44 ∷ 41 ∷ 35 ∷ []) c || (is_bare m && (c == 40))

-- letter, digit or `_`
abbrev pub is_word : ℕ → Bool
is_word c = is_letter c || is_digit c || (c == 95)

-- what a name may stand behind: the beginning, blank, tab, newline, `;`, `:`
abbrev pub may_begin_name : List ℕ → Bool
may_begin_name before =
    (length before == 0) || is_one_of (32 ∷ 9 ∷ 10 ∷ 59 ∷ 58 ∷ []) (slice_index before (length before - 1))

-- What stands before `%=` ends in `.L` and any letters, digits and `_`, the last no digit, and a name may begin there.
abbrev pub ends_label : List ℕ → Bool
ends_label before =
    let word = length before - suffix_len is_word before in
    (slice_index before word == 76) && not (is_digit (slice_index before (length before - 1))) && (slice_index before (word - 1) == 46) && may_begin_name (take (word - 1) before)

-- No part of a name is there: a letter, a digit, `_`, `.`, `$`, an operand, `%=`.
abbrev pub ends_name : List ℕ → Bool
ends_name after =
    let c = slice_index after 0 in
    (length after == 0) || not (is_word c || is_one_of (46 ∷ 36 ∷ 0 ∷ 1 ∷ []) c)

-- Whether a form may stand where it does: in a comment or not, with the codes before it and behind it.
abbrev pub may_stand : Bool → List ℕ → TemplateForm → List ℕ → Bool
may_stand inside before (forms.Byte b at) after = true
may_stand inside before (forms.Hole k m at) after = inside || (may_precede m before && may_follow m after)
may_stand inside before (forms.Unique at) after = inside || (ends_label before && ends_name after)
may_stand inside before (forms.Outside at) after = false

abbrev pub place_of : TemplateForm → ℕ
place_of (forms.Byte b at) = at
place_of (forms.Hole k m at) = at
place_of (forms.Unique at) = at
place_of (forms.Outside at) = at

-- The place of the leftmost form that may not stand where it does; the codes are those before the forms, and
-- the marks say which forms stand in comments.
unfoldable pub first_outside : List ℕ → List TemplateForm → List Bool → Option ℕ
first_outside before [] marks = None
first_outside before (f ∷ fs) [] = None
first_outside before (f ∷ fs) (inside ∷ marks) =
    if may_stand inside before f (map form_code fs) then first_outside (before ++ form_code f ∷ []) fs marks
    else Some (place_of f)

-- The piece that a form gives; an operand that isn't there gives none.
abbrev pub piece_of : TemplateForm → Option Piece
piece_of (forms.Byte b at) = Some (pieces.Byte b at)
piece_of (forms.Hole operand m at) = option_map (λ k. pieces.Hole k m at) operand
piece_of (forms.Unique at) = Some (pieces.Unique at)
piece_of (forms.Outside at) = None

abbrev pub pieces_in : List TemplateForm → List Piece
pieces_in fs = filter_map piece_of fs

-- a hole that names an operand that isn't there
abbrev pub is_missing : TemplateForm → Bool
is_missing (forms.Hole None m at) = true
is_missing f = false

-- What reading a template gives.
pub data Scan : Type 0 where
  -- the offset in the file of the leftmost form outside the grammar
  Outside : (place : ℕ) → Scan
  -- the pieces, and whether some hole, in comments too, names an operand that isn't there
  Scanned : (list : List Piece) → (missing : Bool) → Scan

abbrev pub judged : List TemplateForm → Option ℕ → Scan
judged fs (Some place) = Outside place
judged fs None = Scanned (pieces_in fs) (list_any is_missing fs)

-- Every form is judged first, then its operands: a hole without an operand is a hole to what stands beside it.
abbrev pub scan_of : Quoted → List (Option (List ℕ)) → Scan
scan_of q names = let fs = forms_of q names in judged fs (first_outside [] fs (comments_of (map form_code fs)))

abbrev pub pieces_read : Scan → Result (List Piece) PiecesEnd
pieces_read (Outside place) = Err (ends.Outside (record { kind = Template; place = place }))
pieces_read (Scanned list missing) = if missing then Err ends.NoOperand else Ok list

-- The pieces, or why there are none.
abbrev pub pieces_of : Quoted → List (Option (List ℕ)) → Result (List Piece) PiecesEnd
pieces_of q names = pieces_read (scan_of q names)

-- What stands beside a piece outside comments, by the codes before it and behind it.
abbrev pub StandsApart : List ℕ → Piece → List ℕ → Type 0
StandsApart before (pieces.Byte b at) after = Unit {0}
StandsApart before (pieces.Hole k m at) after = IsTrue (may_precede m before) × IsTrue (may_follow m after)
StandsApart before (pieces.Unique at) after = IsTrue (ends_name after)

-- Every operand and every `%=` stands apart from what is beside it.
unfoldable pub StandApart : List ℕ → List Piece → Type 0
StandApart before [] = Unit {0}
StandApart before (p ∷ ps) = StandsApart before p (map piece_code ps) × StandApart (before ++ piece_code p ∷ []) ps

-- a hole names one of so many operands
abbrev pub NamesOneOf : ℕ → Piece → Type 0
NamesOneOf count (pieces.Byte b at) = Unit {0}
NamesOneOf count (pieces.Hole k m at) = k < count
NamesOneOf count (pieces.Unique at) = Unit {0}

-- What the pieces of a template with so many operands keep.
pub record ArePieces (count : ℕ) (ps : List Piece) : Type 0 where
  pub numbered : All (NamesOneOf count) ps
  pub apart : StandApart [] (uncommented piece_code ps)
