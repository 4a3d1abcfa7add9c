-- Reading lines commutes with placing them.
use Rattle.std.proofs.Common.{◌≡◌, ℕ, ◌+◌, ◌==◌, ◌||◌, List, [], ◌∷◌, length, map, take, drop, Bool, true, false, cond, Option, None, Some, refl, ap, slice_index, slice_get}
use Rattle.std.proofs.lemmas.List.{drop-map, length-map}
use Rattle.std.proofs.lemmas.Option.{slice_get-map}
use Rattle.std.specs.Option.{option_map}
use Rattle.asm_core.proofs.ReadingLaws.CutKept.{if-map, raw_map, raws_of-kept, labels_from-kept, instruction_count-kept}
use Rattle.asm_core.proofs.ReadingLaws.OperandsPlaced.{placed_atom, placed_all, placed_operand, keeps_codes, codes-placed, trimmed-placed, operands_of-placed, all_some-placed, text_piece}
use Rattle.asm_core.specs.Reading.Cut.{is_blank, Raw, raws_of, labels_from, instruction_count}
use Rattle.asm_core.specs.Reading.Operands.{atom_code, trimmed, operands_of, all_some}
use Rattle.asm_core.specs.Reading.Chosen.{class_of, choice_of, prefixes_fit}
use Rattle.asm_core.specs.Reading.Line.{Defined, goal_of, line_with, line_chosen, line_of_operands, line_at, line_of, name_len, place_from, piece_place, disp_arg, readings_from, readings_of, label_in, target_in, target_of, targets_from, arg_of, sym_of, inst_of_reading, labels_of, lines_with}
use Rattle.asm_core.specs.Reading.Text.{inst_arg_of, inst_arg_at, inst_of, text_inst, text_with, number_arg}
use Rattle.asm_core.specs.Reading.Placed.{placed_disp, operand_under, operand_at, inst_under, code_under}
use Rattle.asm_core.specs.declared.reading.Line.{Line}
use Rattle.asm_core.specs.declared.reading.Reading.{Reading}
use Rattle.asm_core.specs.declared.names.Choice.{Choice}
use Rattle.asm_core.specs.declared.names.Prefixed.{Prefixed}
use Rattle.asm_core.specs.declared.sym.Disp.{Disp}
use Rattle.asm_core.specs.declared.piece.Piece.{Piece}
use Rattle.asm_core.specs.declared.names.Prefix.{Prefix}
use Rattle.asm_core.specs.declared.names.NameRow.{NameRow}
use Rattle.asm_core.specs.declared.placement.Placement.{Placement}
use Rattle.asm_core.specs.declared.reading.Atom.{Atom}
use Rattle.asm_core.specs.declared.reading.LineOperand.{LineOperand}

abbrev pub placed_line : Placement → Line → Line
placed_line p l = record l { operands = map (placed_operand p) l.operands; place = 0 }

abbrev pub placed_reading : Placement → Reading → Reading
placed_reading p (Reading.Read l) = Reading.Read (placed_line p l)
placed_reading p Reading.LeftOut = Reading.LeftOut
placed_reading p Reading.Unread = Reading.Unread

module _ (p : Placement) where
  class_of-placed : (o : LineOperand) → class_of (placed_operand p o) ≡ class_of o
  class_of-placed (LineOperand.Register place slice count) = refl
  class_of-placed (LineOperand.Immediate d) = refl
  class_of-placed (LineOperand.Memory k form) = refl
  class_of-placed (LineOperand.Address d base index) = refl
  class_of-placed (LineOperand.Label goal) = refl

  classes-placed : (os : List LineOperand) → map class_of (map (placed_operand p) os) ≡ map class_of os
  classes-placed [] = refl
  classes-placed (o ∷ os) = rw (class_of-placed o, classes-placed os) refl

  left_out-placed : (b : Bool) (l : Line) → cond b Reading.LeftOut (Reading.Read (placed_line p l)) ≡ placed_reading p (cond b Reading.LeftOut (Reading.Read l))
  left_out-placed true l = refl
  left_out-placed false l = refl

  line_with-placed : (c : Choice) (os : List LineOperand) (place : ℕ) (o : Option Prefixed) → line_with c (map (placed_operand p) os) 0 o ≡ placed_reading p (line_with c os place o)
  line_with-placed c os place None = refl
  line_with-placed c os place (Some q) = left_out-placed c.row.left_out (record { op = c.op; width = c.width; operands = os; repeat = q.repeat; lock = q.lock; place = place })

  line_chosen-placed : (before : List Prefix) (os : List LineOperand) (place : ℕ) (c : Option Choice) → line_chosen before (map (placed_operand p) os) 0 c ≡ placed_reading p (line_chosen before os place c)
  line_chosen-placed before os place None = refl
  line_chosen-placed before os place (Some c) = rw (classes-placed os) (line_with-placed c os place (prefixes_fit c.row (map class_of os) before))

  line_of_operands-placed : (rows : List NameRow) (before : List Prefix) (name : List ℕ) (place : ℕ) (os : Option (List LineOperand))
      → line_of_operands rows before name 0 (option_map (map (placed_operand p)) os) ≡ placed_reading p (line_of_operands rows before name place os)
  line_of_operands-placed rows before name place None = refl
  line_of_operands-placed rows before name place (Some os) = rw (classes-placed os) (line_chosen-placed before os place (choice_of rows name (map class_of os)))

  line_at-placed : (rows : List NameRow) (goal : List ℕ → Option (Option ℕ)) (before : List Prefix) (place : ℕ) (xs : List Atom) (n : ℕ)
      → line_at rows goal before 0 (placed_all p xs) n ≡ placed_reading p (line_at rows goal before place xs n)
  unfolding line_at
  line_at-placed rows goal before place xs n =
      let cs = map atom_code xs in
      let os = operands_of goal (trimmed (drop n xs)) in
      rw (
        length-map,
        codes-placed p xs,
        drop-map (placed_atom p) n xs,
        trimmed-placed p (drop n xs),
        operands_of-placed p goal (trimmed (drop n xs)),
        all_some-placed p os,
        line_of_operands-placed rows before (take n cs) place (all_some os),
      )
      (if-map (placed_reading p) ((length xs == n) || is_blank (slice_index cs n)) (line_of_operands rows before (take n cs) place (all_some os)) Reading.Unread)

  pub line_of-placed : (rows : List NameRow) (goal : List ℕ → Option (Option ℕ)) (before : List Prefix) (place : ℕ) (xs : List Atom)
      → line_of rows goal before 0 (placed_all p xs) ≡ placed_reading p (line_of rows goal before place xs)
  unfolding line_of
  line_of-placed rows goal before place xs = rw (codes-placed p xs) (line_at-placed rows goal before place xs (name_len (map atom_code xs)))

  no_place : (x : Piece) → piece_place (text_piece x) ≡ 0
  no_place (Piece.Byte b at) = refl
  no_place (Piece.Hole k m at) = refl
  no_place (Piece.Unique at) = refl

  place_from-placed : (xs : List Atom) → place_from (placed_all p xs) ≡ 0
  place_from-placed [] = refl
  place_from-placed (x ∷ xs) = no_place x.piece

  readings_from-placed : (rows : List NameRow) (labels : List Defined) (n : ℕ) (raws : List (Raw Atom))
      → readings_from rows labels n (map (raw_map (placed_atom p)) raws) ≡ map (placed_reading p) (readings_from rows labels n raws)
  unfolding readings_from
  readings_from-placed rows labels n [] = refl
  readings_from-placed rows labels n (Raw.Named name ∷ raws) = readings_from-placed rows labels n raws
  readings_from-placed rows labels n (Raw.Dead from ∷ raws) = rw (readings_from-placed rows labels (n + 1) raws) refl
  readings_from-placed rows labels n (Raw.Live before from body ∷ raws) =
      rw (place_from-placed from, line_of-placed rows (goal_of labels n) before (place_from from) body, readings_from-placed rows labels (n + 1) raws) refl

  pub readings_of-placed : (rows : List NameRow) (raws : List (Raw Atom)) → readings_of rows (map (raw_map (placed_atom p)) raws) ≡ map (placed_reading p) (readings_of rows raws)
  unfolding readings_of
  readings_of-placed rows raws = rw (labels_from-kept (placed_atom p) 0 raws) (readings_from-placed rows (labels_from 0 raws) 0 raws)

  label_in-placed : (o : LineOperand) → label_in (placed_operand p o) ≡ label_in o
  label_in-placed (LineOperand.Register place slice count) = refl
  label_in-placed (LineOperand.Immediate d) = refl
  label_in-placed (LineOperand.Memory k form) = refl
  label_in-placed (LineOperand.Address d base index) = refl
  label_in-placed (LineOperand.Label goal) = refl

  target_in-placed : (n : ℕ) (os : List LineOperand) → target_in n (map (placed_operand p) os) ≡ target_in n os
  target_in-placed n [] = refl
  target_in-placed n (o ∷ os) = rw (label_in-placed o, target_in-placed n os) refl

  target_of-placed : (n : ℕ) (r : Reading) → target_of n (placed_reading p r) ≡ target_of n r
  target_of-placed n (Reading.Read l) = target_in-placed n l.operands
  target_of-placed n Reading.LeftOut = refl
  target_of-placed n Reading.Unread = refl

  targets_from-placed : (n : ℕ) (rs : List Reading) → targets_from n (map (placed_reading p) rs) ≡ targets_from n rs
  targets_from-placed n [] = refl
  targets_from-placed n (r ∷ rs) = rw (target_of-placed n r, targets_from-placed (n + 1) rs) refl

  number_arg-placed : (d : Disp) → number_arg (placed_disp p d) ≡ operand_under p (disp_arg d)
  number_arg-placed (Disp.Number n) = refl
  number_arg-placed (Disp.Hole k) = refl

  arg_of-placed : (count : ℕ) (o : LineOperand) → inst_arg_of count (placed_operand p o) ≡ operand_under p (arg_of count o)
  arg_of-placed count (LineOperand.Register place slice is_count) = refl
  arg_of-placed count (LineOperand.Immediate d) = number_arg-placed d
  arg_of-placed count (LineOperand.Memory k form) = refl
  arg_of-placed count (LineOperand.Address d base index) = refl
  arg_of-placed count (LineOperand.Label goal) = refl

  arg_at-placed : (count : ℕ) (o : Option LineOperand) → inst_arg_at count (option_map (placed_operand p) o) ≡ operand_at p (option_map (arg_of count) o)
  arg_at-placed count None = refl
  arg_at-placed count (Some o) = arg_of-placed count o

  args-placed : (count k : ℕ) (os : List LineOperand) → inst_arg_at count (slice_get (map (placed_operand p) os) k) ≡ operand_at p (slice_get (map (arg_of count) os) k)
  args-placed count k os = rw (slice_get-map (placed_operand p) os k, slice_get-map (arg_of count) os k) (arg_at-placed count (slice_get os k))

  inst_of-placed : (count : ℕ) (l : Line) → inst_of count (placed_line p l) ≡ inst_under p (sym_of count l)
  inst_of-placed count l = rw (args-placed count 0 l.operands, args-placed count 1 l.operands, args-placed count 2 l.operands) refl

  pub reading-placed : (count : ℕ) (r : Reading) → text_inst count (placed_reading p r) ≡ option_map (inst_under p) (inst_of_reading count r)
  reading-placed count (Reading.Read l) = ap Some (inst_of-placed count l)
  reading-placed count Reading.LeftOut = refl
  reading-placed count Reading.Unread = refl

  insts-placed : (count : ℕ) (rs : List Reading) → map (text_inst count) (map (placed_reading p) rs) ≡ map (option_map (inst_under p)) (map (inst_of_reading count) rs)
  insts-placed count [] = refl
  insts-placed count (r ∷ rs) = rw (reading-placed count r, insts-placed count rs) refl

  labels_of-placed : (raws : List (Raw Atom)) → labels_of (map (raw_map (placed_atom p)) raws) ≡ labels_of raws
  labels_of-placed raws = rw (labels_from-kept (placed_atom p) 0 raws) refl

  -- placing what was read is reading what was placed
  pub code-placed : (rows : List NameRow) (xs : List Atom)
      → (let raws = raws_of atom_code (placed_all p xs) in text_with raws (readings_of rows raws))
      ≡ (let raws = raws_of atom_code xs in code_under p (lines_with raws (readings_of rows raws)))
  code-placed rows xs =
      let raws = raws_of atom_code xs in
      let count = instruction_count raws in
      rw (
        raws_of-kept atom_code atom_code (placed_atom p) (keeps_codes p) xs,
        readings_of-placed rows raws,
        instruction_count-kept (placed_atom p) raws,
        labels_of-placed raws,
        targets_from-placed 0 (readings_of rows raws),
        insts-placed count (readings_of rows raws),
      ) refl
