-- The lines of a template under a shape.
use Rattle.std.specs.Prelude.{ℕ, ◌+◌, ◌-◌, ◌==◌, ◌||◌, ◌&&◌, nat_le, nat_lt, not, bit_or, ◌^◌, Bool, List, [], ◌∷◌, ◌++◌, length, map, take, drop, reverse, find, slice_index, unwrap_or, Option, None, Some, Result, Ok, Err, if◌then◌else◌}
use Rattle.std.specs.Option.{option_map}
use Rattle.std.specs.List.{prefix_len}
use Rattle.std.specs.Str.Parse.{digits_value}
use Rattle.asm_core.specs.Comments.{uncommented}
use Rattle.asm_core.specs.Reg.{reg_number}
use Rattle.asm_core.specs.Pieces.{piece_code}
use Rattle.asm_core.specs.Reading.Cut.{is_blank, is_word, is_number_label, is_unique_label, same_name, Raw, raws_of, labels_from, instruction_count}
use Rattle.asm_core.specs.Reading.Written.{register_named}
use Rattle.asm_core.specs.Reading.Operands.{atom_code, trimmed, operands_of, all_some}
use Rattle.asm_core.specs.Reading.Chosen.{class_of, choice_of, prefixes_fit}
use Rattle.asm_core.specs.Reading.Facts.{facts_of, atom_of}
use Rattle.asm_core.specs.declared.reg.Reg.{Reg}
use Rattle.asm_core.specs.declared.sym.Disp.{Disp}
use Rattle.asm_core.specs.declared.sym.Arg.{Arg}
use Rattle.asm_core.specs.declared.sym.Sym.{Sym}
use Rattle.asm_core.specs.declared.piece.Piece.{Piece}
use Rattle.asm_core.specs.declared.names.Prefix.{Prefix}
use Rattle.asm_core.specs.declared.names.NameRow.{NameRow}
use Rattle.asm_core.specs.declared.names.Choice.{Choice}
use Rattle.asm_core.specs.declared.names.Prefixed.{Prefixed}
use Rattle.asm_core.specs.declared.reading.Atom.{Atom}
use Rattle.asm_core.specs.declared.reading.LineOperand.{LineOperand}
use Rattle.asm_core.specs.declared.reading.Line.{Line}
use Rattle.asm_core.specs.declared.reading.Reading.{Reading}
use Rattle.asm_core.specs.declared.interface.Interface.{Interface}
use Rattle.asm_core.specs.declared.shape.Shape.{Shape}
use Rattle.asm_core.specs.declared.lines.Label.{Label}
use Rattle.asm_core.specs.declared.lines.JumpTarget.{JumpTarget}
use Rattle.asm_core.specs.declared.lines.Named.{Named}
use Rattle.asm_core.specs.declared.lines.Lines.{Lines}
use Rattle.asm_core.specs.declared.lines.LinesEnd.{LinesEnd}

-- a label with the number of the instruction that it stands before
abbrev pub Defined : Type 0
Defined = List ℕ × ℕ

abbrev pub defines_number : ℕ → Defined → Bool
defines_number n l = is_number_label l.0 && (digits_value 10 l.0 == n)

abbrev pub goal_in : List Defined → (Defined → Bool) → Option ℕ
goal_in labels is = option_map (λ (l : Defined). l.1) (find is labels)

-- `Nb` is the nearest label N at or before the instruction, `Nf` the nearest behind it
abbrev pub numbered_goal : List Defined → ℕ → ℕ → Bool → Option ℕ
numbered_goal labels inst n back =
    if back then goal_in (reverse labels) (λ l. defines_number n l && nat_le l.1 inst)
    else goal_in labels (λ l. defines_number n l && nat_lt inst l.1)

-- a number of 1 to 4 digits, of which the first is no 0 where there are several
abbrev pub is_reference : List ℕ → Bool
is_reference ds = is_number_label ds && ((length ds == 1) || not (slice_index ds 0 == 48))

-- Where an operand of the instruction of that number jumps: none where it is no label, `Some None` where there is no such label
-- (GNU as, "Local Labels").
unfoldable pub goal_of : List Defined → ℕ → List ℕ → Option (Option ℕ)
goal_of labels inst text =
    let n = length text - 1 in
    let digits = take n text in
    let last = slice_index text n in
    if is_reference digits && ((last == 98) || (last == 102)) then Some (numbered_goal labels inst (digits_value 10 digits) (last == 98))
    else if is_unique_label text then Some (goal_in labels (λ l. same_name l.0 text))
    else None

abbrev pub line_with : Choice → List LineOperand → ℕ → Option Prefixed → Reading
line_with c os place None = Reading.Unread
line_with c os place (Some p) =
    if c.row.left_out then Reading.LeftOut
    else Reading.Read (record { op = c.op; width = c.width; operands = os; repeat = p.repeat; lock = p.lock; place = place })

abbrev pub line_chosen : List Prefix → List LineOperand → ℕ → Option Choice → Reading
line_chosen before os place None = Reading.Unread
line_chosen before os place (Some c) = line_with c os place (prefixes_fit c.row (map class_of os) before)

abbrev pub line_of_operands : List NameRow → List Prefix → List ℕ → ℕ → Option (List LineOperand) → Reading
line_of_operands rows before name place None = Reading.Unread
line_of_operands rows before name place (Some os) = line_chosen before os place (choice_of rows name (map class_of os))

-- the body of an instruction whose name has n codes; a blank stands between it and its operands
unfoldable pub line_at : List NameRow → (List ℕ → Option (Option ℕ)) → List Prefix → ℕ → List Atom → ℕ → Reading
line_at rows goal before place xs n =
    let cs = map atom_code xs in
    if (length xs == n) || is_blank (slice_index cs n) then line_of_operands rows before (take n cs) place (all_some (operands_of goal (trimmed (drop n xs))))
    else Reading.Unread

abbrev pub name_len : List ℕ → ℕ
name_len cs = prefix_len is_word cs

unfoldable pub line_of : List NameRow → (List ℕ → Option (Option ℕ)) → List Prefix → ℕ → List Atom → Reading
line_of rows goal before place xs = line_at rows goal before place xs (name_len (map atom_code xs))

abbrev pub piece_place : Piece → ℕ
piece_place (Piece.Byte b at) = at
piece_place (Piece.Hole k m at) = at
piece_place (Piece.Unique at) = at

abbrev pub place_from : List Atom → ℕ
place_from [] = 0
place_from (x ∷ xs) = piece_place x.piece

-- the readings of the instructions, n being the number of the first
unfoldable pub readings_from : List NameRow → List Defined → ℕ → List (Raw Atom) → List Reading
readings_from rows labels n [] = []
readings_from rows labels n (Raw.Named name ∷ raws) = readings_from rows labels n raws
readings_from rows labels n (Raw.Dead from ∷ raws) = Reading.Unread ∷ readings_from rows labels (n + 1) raws
readings_from rows labels n (Raw.Live before from body ∷ raws) =
    line_of rows (goal_of labels n) before (place_from from) body ∷ readings_from rows labels (n + 1) raws

unfoldable pub readings_of : List NameRow → List (Raw Atom) → List Reading
readings_of rows raws = readings_from rows (labels_from 0 raws) 0 raws

-- the registers that are written in a text, each behind its `%`
abbrev pub written_registers : List ℕ → List Reg
written_registers [] = []
written_registers (c ∷ cs) =
    let others = written_registers cs in
    if c == 37 then elim (register_named (take (prefix_len is_word cs) cs)) [ None ↦ others | Some r ↦ r.0 ∷ others ] else others

abbrev pub set_of : List Reg → ℕ
set_of [] = 0
set_of (r ∷ rs) = bit_or (2 ^ reg_number r) (set_of rs)

abbrev pub hole_bits : List Atom → ℕ
hole_bits [] = 0
hole_bits (x ∷ xs) = elim x.piece [ Piece.Byte b at ↦ hole_bits xs | Piece.Hole k m at ↦ bit_or (2 ^ k) (hole_bits xs) | Piece.Unique at ↦ hole_bits xs ]

-- what the text of an instruction names
abbrev pub named_in : List Atom → Named
named_in xs = record { regs = record { 0 = set_of (written_registers (map atom_code xs)) }; operands = hole_bits xs }

abbrev pub named_of : List (Raw Atom) → List Named
named_of [] = []
named_of (Raw.Named name ∷ raws) = named_of raws
named_of (Raw.Dead from ∷ raws) = named_in [] ∷ named_of raws
named_of (Raw.Live before from body ∷ raws) = named_in body ∷ named_of raws

abbrev pub places_of : List (Raw Atom) → List ℕ
places_of [] = []
places_of (Raw.Named name ∷ raws) = places_of raws
places_of (Raw.Dead from ∷ raws) = place_from from ∷ places_of raws
places_of (Raw.Live before from body ∷ raws) = place_from from ∷ places_of raws

abbrev pub line_read : Reading → Option Line
line_read (Reading.Read l) = Some l
line_read Reading.LeftOut = None
line_read Reading.Unread = None

-- the label that an operand is
abbrev pub label_in : LineOperand → Option (Option ℕ)
label_in (LineOperand.Label goal) = Some goal
label_in (LineOperand.Register place slice count) = None
label_in (LineOperand.Immediate d) = None
label_in (LineOperand.Memory k form) = None
label_in (LineOperand.Address d base index) = None

-- the target of the operand that is a label, before those of others
abbrev pub onto_targets : ℕ → Option (Option ℕ) → List JumpTarget → List JumpTarget
onto_targets n None others = others
onto_targets n (Some goal) others = record { inst = n; goal = goal } ∷ others

abbrev pub target_in : ℕ → List LineOperand → List JumpTarget
target_in n [] = []
target_in n (o ∷ os) = onto_targets n (label_in o) (target_in n os)

abbrev pub target_of : ℕ → Reading → List JumpTarget
target_of n (Reading.Read l) = target_in n l.operands
target_of n Reading.LeftOut = []
target_of n Reading.Unread = []

-- the targets of the instructions that jump, n being the number of the first
abbrev pub targets_from : ℕ → List Reading → List JumpTarget
targets_from n [] = []
targets_from n (r ∷ rs) = target_of n r ++ targets_from (n + 1) rs

abbrev pub left_out_from : ℕ → List Reading → List ℕ
left_out_from n [] = []
left_out_from n (Reading.Read l ∷ rs) = left_out_from (n + 1) rs
left_out_from n (Reading.LeftOut ∷ rs) = n ∷ left_out_from (n + 1) rs
left_out_from n (Reading.Unread ∷ rs) = left_out_from (n + 1) rs

abbrev pub disp_arg : Disp → Arg
disp_arg (Disp.Number n) = Arg.Number n
disp_arg (Disp.Hole k) = Arg.Hole k

-- the operand before any placement; `count` is the number that a label has that isn't there
abbrev pub arg_of : ℕ → LineOperand → Arg
arg_of count (LineOperand.Register place slice is_count) = Arg.Register place slice
arg_of count (LineOperand.Immediate d) = disp_arg d
arg_of count (LineOperand.Memory k form) = Arg.Memory k
arg_of count (LineOperand.Address d base index) = Arg.Address d base index
arg_of count (LineOperand.Label goal) = Arg.Label (unwrap_or goal count)

abbrev pub sym_of : ℕ → Line → Sym
sym_of count l = record { op = l.op; width = l.width; args = map (arg_of count) l.operands; repeat = l.repeat; lock = l.lock; place = l.place }

abbrev pub inst_of_reading : ℕ → Reading → Option Sym
inst_of_reading count r = option_map (sym_of count) (line_read r)

abbrev pub labels_of : List (Raw Atom) → List Label
labels_of raws = map (λ (l : Defined). record { name = l.0; before = l.1 }) (labels_from 0 raws)

abbrev pub lines_with : List (Raw Atom) → List Reading → Lines
lines_with raws readings = record {
  insts = map (inst_of_reading (instruction_count raws)) readings;
  places = places_of raws;
  named = named_of raws;
  left_out = left_out_from 0 readings;
  labels = labels_of raws;
  targets = targets_from 0 readings;
}

-- the statements of pieces, each piece with what it stands for
unfoldable pub template_raws : Interface → Shape → List Piece → List (Raw Atom)
template_raws i s ps = raws_of atom_code (map (atom_of (facts_of i s)) (uncommented piece_code ps))

abbrev pub lines_of_raws : List NameRow → List (Raw Atom) → Result Lines LinesEnd
lines_of_raws rows raws = if nat_lt 512 (instruction_count raws) then Err LinesEnd.TooMany else Ok (lines_with raws (readings_of rows raws))

-- The lines of pieces under a shape.
abbrev pub lines_under : List NameRow → Interface → Shape → List Piece → Result Lines LinesEnd
lines_under rows i s ps = lines_of_raws rows (template_raws i s ps)
