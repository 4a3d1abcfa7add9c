-- Where all instructions of a template are read, its text is there under each placement that names the bytes that they
-- name.
use Rattle.std.proofs.Common.{◌≡◌, ℕ, suc, ◌+◌, ◌==◌, ◌&&◌, not, List, [], ◌∷◌, ◌++◌, map, Bool, true, false, cond, Option, None, Some, Result, Ok, Err, refl, sym, subst, ◌∙◌}
use Rattle.std.proofs.lemmas.Bool.{and_from, not-true}
use Rattle.std.specs.List.{list_all}
use Rattle.asm_core.specs.Comments.{kept, comments_of, uncommented}
use Rattle.asm_core.specs.WellFormed.{IsInterface}
use Rattle.asm_core.specs.Pieces.{piece_code}
use Rattle.asm_core.specs.Expansion.{operand_text, with_origin, hole_text, piece_text, expansion_with, expansion_of}
use Rattle.asm_core.specs.Reading.Cut.{Raw, raws_of, labels_from, instruction_count}
use Rattle.asm_core.specs.Reading.Operands.{atom_code}
use Rattle.asm_core.specs.Reading.Facts.{facts_of, atom_of}
use Rattle.asm_core.specs.Reading.Line.{Defined, goal_of, line_of, place_from, readings_from, readings_of, disp_arg, arg_of, inst_of_reading, template_raws, lines_under}
use Rattle.asm_core.specs.Reading.UnderShape.{IsLettered}
use Rattle.asm_core.proofs.ReadingLaws.CutWhole.{first_true, both_true, is_raw_fit, cut_whole}
use Rattle.asm_core.proofs.ReadingLaws.HolesCut.{is_held, are_held, held_free}
use Rattle.asm_core.proofs.ReadingLaws.HolesRead.{is_held_in, line_read_held}
use Rattle.asm_core.proofs.ReadingLaws.InstsRead.{line_there, insts_are}
use Rattle.asm_core.proofs.ReadingLaws.NamesPrinted.{IsThere, is_part_lost, is_leaf_lost, may_be_lost, hole_there}
use Rattle.asm_core.proofs.ReadingLaws.WrittenCodes.{goal_codes}
use Rattle.asm_core.specs.declared.sym.Disp.{Disp}
use Rattle.asm_core.specs.declared.sym.Arg.{Arg}
use Rattle.asm_core.specs.declared.sym.Sym.{Sym}
use Rattle.asm_core.specs.declared.names.Prefix.{Prefix}
use Rattle.asm_core.specs.declared.names.NameRow.{NameRow}
use Rattle.asm_core.specs.declared.piece.Piece.{Piece}
use Rattle.asm_core.specs.declared.placement.Placement.{Placement}
use Rattle.asm_core.specs.declared.shape.Shape.{Shape}
use Rattle.asm_core.specs.declared.interface.Interface.{Interface}
use Rattle.asm_core.specs.declared.reading.Atom.{Atom}
use Rattle.asm_core.specs.declared.reading.LineOperand.{LineOperand}
use Rattle.asm_core.specs.declared.reading.Sign.{Sign}
use Rattle.asm_core.specs.declared.lines.Lines.{Lines}

-- ---- lines whose bytes are named

-- the part of a register that an operand of a line names has a name under the placement
abbrev pub is_arg_named : Placement → Arg → Bool
is_arg_named p (Arg.Register place slice) = not (is_part_lost p place slice)
is_arg_named p (Arg.Number n) = true
is_arg_named p (Arg.Hole k) = true
is_arg_named p (Arg.Memory k) = true
is_arg_named p (Arg.Address d base index) = true
is_arg_named p (Arg.Label n) = true

abbrev pub are_bytes_named : Placement → Sym → Bool
are_bytes_named p line = list_all (is_arg_named p) line.args

module _ (p : Placement) where
  number_named : (d : Disp) → is_arg_named p (disp_arg d) ≡ true
  number_named (Disp.Number n) = refl
  number_named (Disp.Hole k) = refl

  operand_held : (count : ℕ) (o : LineOperand) → is_arg_named p (arg_of count o) ≡ true
      → is_held_in (is_leaf_lost p) o ≡ true
  operand_held count (LineOperand.Register place slice is_count) h = h
  operand_held count (LineOperand.Immediate d) h = refl
  operand_held count (LineOperand.Memory k form) h = refl
  operand_held count (LineOperand.Address d base index) h = refl
  operand_held count (LineOperand.Label goal) h = refl

  operands_held : (count : ℕ) (os : List LineOperand) → list_all (is_arg_named p) (map (arg_of count) os) ≡ true
      → list_all (is_held_in (is_leaf_lost p)) os ≡ true
  operands_held count [] h = refl
  operands_held count (o ∷ os) h =
      and_from (is_held_in (is_leaf_lost p) o) (list_all (is_held_in (is_leaf_lost p)) os)
      (operand_held count o (first_true (is_arg_named p (arg_of count o)) _ h))
      (operands_held count os (both_true (is_arg_named p (arg_of count o)) _ h))

  abbrev are_atoms_held : List Atom → Bool
  are_atoms_held xs = are_held (is_leaf_lost p) xs

  body_held : (rows : List NameRow) (labels : List Defined) (n count place : ℕ) (before : List Prefix)
      (body : List Atom) (inst : Sym)
      → inst_of_reading count (line_of rows (goal_of labels n) before place body) ≡ Some inst
      → are_bytes_named p inst ≡ true → are_atoms_held body ≡ true
  body_held rows labels n count place before body inst e named =
      let l = line_there count (line_of rows (goal_of labels n) before place body) inst e in
      let args : list_all (is_arg_named p) (map (arg_of count) l.0.operands) ≡ true =
      subst (λ (x : Sym). are_bytes_named p x ≡ true) (sym l.1.1) named in
      line_read_held (is_leaf_lost p) (may_be_lost p) (goal_of labels n) (goal_codes labels n) rows before place body
      l.0 l.1.0 (operands_held count l.0.operands args)

  abbrev are_raws_held : List (Raw Atom) → Bool
  are_raws_held raws = list_all (is_raw_fit (is_held (is_leaf_lost p))) raws

  -- the instructions of a template that are all read, in bodies whose holes have names
  raws_held : (rows : List NameRow) (labels : List Defined) (n count : ℕ) (raws : List (Raw Atom)) (insts : List Sym)
      → map (inst_of_reading count) (readings_from rows labels n raws) ≡ map Some insts
      → list_all (are_bytes_named p) insts ≡ true
      → are_raws_held raws ≡ true
  unfolding readings_from
  raws_held rows labels n count [] insts e named = refl
  raws_held rows labels n count (Raw.Named name ∷ raws) insts e named = raws_held rows labels n count raws insts e named
  raws_held rows labels n count (Raw.Dead from ∷ raws) [] e named = cc
  raws_held rows labels n count (Raw.Dead from ∷ raws) (inst ∷ insts) e named = cc
  raws_held rows labels n count (Raw.Live before from body ∷ raws) [] e named = cc
  raws_held rows labels n count (Raw.Live before from body ∷ raws) (inst ∷ insts) e named =
      let reading = line_of rows (goal_of labels n) before (place_from from) body in
      let here : inst_of_reading count reading ≡ Some inst = cc in
      let others : map (inst_of_reading count) (readings_from rows labels (n + 1) raws) ≡ map Some insts = cc in
      and_from (are_atoms_held body) (are_raws_held raws)
      (body_held rows labels n count (place_from from) before body inst here
      (first_true (are_bytes_named p inst) _ named))
      (raws_held rows labels (n + 1) count raws insts others (both_true (are_bytes_named p inst) _ named))

  -- so have all holes of the template
  elements_held : (xs : List Atom) → are_raws_held (raws_of atom_code xs) ≡ true → are_atoms_held xs ≡ true
  elements_held xs h = cut_whole atom_code (is_held (is_leaf_lost p)) (held_free (is_leaf_lost p)) xs h

-- ---- the text

module _ (i : Interface) (s : Shape) (is : IsInterface i) (p : Placement) (lettered : IsLettered i s p) (unique : ℕ)
  where
    abbrev atoms : List Piece → List Atom
    atoms xs = map (atom_of (facts_of i s)) xs

    given : (k : ℕ) (o : Option (List ℕ)) → IsThere o
        → (text : List Sign) ×
        (elim (hole_text false o) as (λ _. Result (List Sign) ℕ) [ None ↦ Err k | Some t ↦ Ok (with_origin (suc k) t) ]
        ≡ Ok text)
    given k None h = let no : None ≡ Some h.0 = h.1 in cc
    given k (Some t) h = (_, refl)

    in_comment : (k : ℕ) (o : Option (List ℕ))
        → (text : List Sign) ×
        (elim (hole_text true o) as (λ _. Result (List Sign) ℕ) [ None ↦ Err k | Some t ↦ Ok (with_origin (suc k) t) ]
        ≡ Ok text)
    in_comment k None = (_, refl)
    in_comment k (Some t) = (_, refl)

    -- what a piece gives; in comments each gives something
    piece_there : (inside : Bool) (x : Piece) (rest : List Piece)
        → are_atoms_held p (atoms (cond (inside && cond (piece_code x == 10) false true) rest (x ∷ rest))) ≡ true
        → (text : List Sign) × (piece_text i p unique inside x ≡ Ok text)
    piece_there inside (Piece.Byte b at) rest h = (_, refl)
    piece_there inside (Piece.Unique at) rest h = (_, refl)
    piece_there true (Piece.Hole k m at) rest h = in_comment k (operand_text i p k m)
    piece_there false (Piece.Hole k m at) rest h =
        let x = atom_of (facts_of i s) (Piece.Hole k m at) in
        let kept = not-true (is_leaf_lost p x.leaf) (first_true (is_held (is_leaf_lost p) x) _ h) in
        given k (operand_text i p k m) (hole_there i s is p lettered k m kept)

    rest_held : (b : Bool) (x : Piece) (rest : List Piece) → are_atoms_held p (atoms (cond b rest (x ∷ rest))) ≡ true
        → are_atoms_held p (atoms rest) ≡ true
    rest_held true x rest h = h
    rest_held false x rest h = both_true (is_held (is_leaf_lost p) (atom_of (facts_of i s) x)) _ h

    expansion_there : (xs : List Piece) (marks : List Bool) → are_atoms_held p (atoms (kept piece_code xs marks)) ≡ true
        → (text : List Sign) × (expansion_with i p unique xs marks ≡ Ok text)
    unfolding kept expansion_with
    expansion_there [] marks h = ([], refl)
    expansion_there (x ∷ xs) [] h = ([], refl)
    expansion_there (x ∷ xs) (inside ∷ marks) h =
        let first = piece_there inside x (kept piece_code xs marks) h in
        let rest = expansion_there xs marks
        (rest_held (inside && cond (piece_code x == 10) false true) x (kept piece_code xs marks) h) in
        (first.0 ++ rest.0, rw (first.1, rest.1) refl)

    -- The text is there where each instruction is read, and each byte that one of them names has a name under the
    -- placement.
    pub text_there : (rows : List NameRow) (ps : List Piece) (lines : Lines) (insts : List Sym)
        → lines_under rows i s ps ≡ Ok lines → lines.insts ≡ map Some insts
        → list_all (are_bytes_named p) insts ≡ true → (text : List Sign) × (expansion_of i p unique ps ≡ Ok text)
    unfolding readings_of template_raws
    text_there rows ps lines insts read all named =
        let raws = template_raws i s ps in
        let told = insts_are rows i s ps lines read ∙ all in
        let held = raws_held p rows (labels_from 0 raws) 0 (instruction_count raws) raws insts told named in
        expansion_there ps (comments_of (map piece_code ps)) (elements_held p (atoms (uncommented piece_code ps)) held)
