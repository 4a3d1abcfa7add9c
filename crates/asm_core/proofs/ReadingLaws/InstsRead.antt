-- What the instructions of lines under a shape are made of.
use Rattle.std.proofs.Common.{◌≡◌, ℕ, ◌==◌, ◌||◌, nat_lt, List, map, drop, Bool, true, false, cond, Option, None, Some, Ok, Err, refl, ap, subst, length, slice_index, take}
use Rattle.asm_core.specs.Reading.Cut.{Raw, is_blank, instruction_count}
use Rattle.asm_core.specs.Reading.Operands.{atom_code, trimmed, operands_of, all_some}
use Rattle.asm_core.specs.Reading.Chosen.{class_of, choice_of, prefixes_fit}
use Rattle.asm_core.specs.Reading.Line.{line_with, line_chosen, line_of_operands, line_at, line_of, line_read, name_len, readings_of, sym_of, targets_from, inst_of_reading, template_raws, lines_with, lines_under}
use Rattle.asm_core.specs.declared.names.Choice.{Choice}
use Rattle.asm_core.specs.declared.names.NameRow.{NameRow}
use Rattle.asm_core.specs.declared.names.Prefix.{Prefix}
use Rattle.asm_core.specs.declared.names.Prefixed.{Prefixed}
use Rattle.asm_core.specs.declared.sym.Sym.{Sym}
use Rattle.asm_core.specs.declared.piece.Piece.{Piece}
use Rattle.asm_core.specs.declared.shape.Shape.{Shape}
use Rattle.asm_core.specs.declared.interface.Interface.{Interface}
use Rattle.asm_core.specs.declared.reading.Atom.{Atom}
use Rattle.asm_core.specs.declared.reading.Line.{Line}
use Rattle.asm_core.specs.declared.reading.LineOperand.{LineOperand}
use Rattle.asm_core.specs.declared.reading.Reading.{Reading}
use Rattle.asm_core.specs.declared.lines.Lines.{Lines}
use Rattle.asm_core.specs.declared.lines.LinesEnd.{LinesEnd}

-- ---- a line

abbrev line_made : Choice → List LineOperand → ℕ → Prefixed → Line
line_made c os place p =
    record { op = c.op; width = c.width; operands = os; repeat = p.repeat; lock = p.lock; place = place }

with_operands : (c : Choice) (os : List LineOperand) (place : ℕ) (l : Line) (p : Option Prefixed)
    → line_read (line_with c os place p) ≡ Some l → os ≡ l.operands
with_operands c os place l None e = cc
with_operands c os place l (Some p) e = by c.row.left_out e
  where
    by : (b : Bool) → line_read (cond b Reading.LeftOut (Reading.Read (line_made c os place p))) ≡ Some l
        → os ≡ l.operands
    by true f = cc
    by false f = let same : line_made c os place p ≡ l = cc in ap (λ (x : Line). x.operands) same

chosen_operands : (before : List Prefix) (os : List LineOperand) (place : ℕ) (l : Line) (c : Option Choice)
    → line_read (line_chosen before os place c) ≡ Some l → os ≡ l.operands
chosen_operands before os place l None e = cc
chosen_operands before os place l (Some c) e =
    with_operands c os place l (prefixes_fit c.row (map class_of os) before) e

chosen_there : (before : List Prefix) (os : List LineOperand) (place : ℕ) (l : Line) (c : Option Choice)
    → line_read (line_chosen before os place c) ≡ Some l → (d : Choice) × (c ≡ Some d)
chosen_there before os place l None e = cc
chosen_there before os place l (Some c) e = (c, refl)

own_operands : (rows : List NameRow) (before : List Prefix) (name : List ℕ) (place : ℕ) (l : Line)
    (os : Option (List LineOperand)) → line_read (line_of_operands rows before name place os) ≡ Some l
    → os ≡ Some l.operands
own_operands rows before name place l None e = cc
own_operands rows before name place l (Some os) e =
    ap Some (chosen_operands before os place l (choice_of rows name (map class_of os)) e)

operands_choice : (rows : List NameRow) (before : List Prefix) (name : List ℕ) (place : ℕ) (l : Line)
    (os : Option (List LineOperand)) → line_read (line_of_operands rows before name place os) ≡ Some l
    → (c : Choice) × (choice_of rows name (map class_of l.operands) ≡ Some c)
operands_choice rows before name place l None e = cc
operands_choice rows before name place l (Some os) e =
    let chosen = choice_of rows name (map class_of os) in
    let own = chosen_operands before os place l chosen e in
    let c = chosen_there before os place l chosen e in
    (c.0, subst (λ ys. choice_of rows name (map class_of ys) ≡ Some c.0) own c.1)

module _ (rows : List NameRow) (goal : List ℕ → Option (Option ℕ)) (before : List Prefix) (place : ℕ) (xs : List Atom)
    (l : Line) where
  -- what stands behind the name
  abbrev behind_name : Option (List LineOperand)
  behind_name = all_some (operands_of goal (trimmed (drop (name_len (map atom_code xs)) xs)))

  abbrev name_in : List ℕ
  name_in = take (name_len (map atom_code xs)) (map atom_code xs)

  read_behind : line_read (line_of rows goal before place xs) ≡ Some l
      → line_read (line_of_operands rows before name_in place behind_name) ≡ Some l
  unfolding line_of line_at
  read_behind e =
      by ((length xs == name_len (map atom_code xs)) || is_blank
      (slice_index (map atom_code xs) (name_len (map atom_code xs)))) e
    where
      by : (b : Bool)
          → line_read (cond b (line_of_operands rows before name_in place behind_name) Reading.Unread) ≡ Some l
          → line_read (line_of_operands rows before name_in place behind_name) ≡ Some l
      by true e = e
      by false e = cc

  -- a line's operands are those that stand behind its name
  pub line_operands : line_read (line_of rows goal before place xs) ≡ Some l
      → all_some (operands_of goal (trimmed (drop (name_len (map atom_code xs)) xs))) ≡ Some l.operands
  line_operands e = own_operands rows before name_in place l behind_name (read_behind e)

  -- the table of names has them behind that name
  pub line_choice : line_read (line_of rows goal before place xs) ≡ Some l
      → (c : Choice)
      × (choice_of rows (take (name_len (map atom_code xs)) (map atom_code xs)) (map class_of l.operands) ≡ Some c)
  line_choice e = operands_choice rows before name_in place l behind_name (read_behind e)

-- an instruction is made of the line that was read
pub line_there : (count : ℕ) (r : Reading) (inst : Sym) → inst_of_reading count r ≡ Some inst
    → (l : Line) × ((line_read r ≡ Some l) × (sym_of count l ≡ inst))
line_there count (Reading.Read l) inst e = (l, (refl, (cc)))
line_there count Reading.LeftOut inst e = cc
line_there count Reading.Unread inst e = cc

-- ---- all lines

lines_if : (rows : List NameRow) (raws : List (Raw Atom)) (b : Bool) (lines : Lines)
    → cond b (Err LinesEnd.TooMany) (Ok (lines_with raws (readings_of rows raws))) ≡ Ok lines
    → lines_with raws (readings_of rows raws) ≡ lines
lines_if rows raws true lines e = cc
lines_if rows raws false lines e = cc

module _ (rows : List NameRow) (i : Interface) (s : Shape) (ps : List Piece) (lines : Lines)
    (read : lines_under rows i s ps ≡ Ok lines) where
  abbrev raws : List (Raw Atom)
  raws = template_raws i s ps

  lines_are : lines_with raws (readings_of rows raws) ≡ lines
  lines_are = lines_if rows raws (nat_lt 512 (instruction_count raws)) lines read

  -- the instructions are made of the readings
  pub insts_are : map (inst_of_reading (instruction_count (template_raws i s ps)))
      (readings_of rows (template_raws i s ps)) ≡ lines.insts
  insts_are = ap (λ (l : Lines). l.insts) lines_are

  -- and so are the targets
  pub targets_are : targets_from 0 (readings_of rows (template_raws i s ps)) ≡ lines.targets
  targets_are = ap (λ (l : Lines). l.targets) lines_are
