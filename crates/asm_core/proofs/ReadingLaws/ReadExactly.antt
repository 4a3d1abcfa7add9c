-- The lines under a shape have an instruction exactly where the template has one with a reading.
use Rattle.std.proofs.Common.{◌≡◌, ◌↔◌, ℕ, List, length, map, true, IsTrue, Option, Some, is_some, Ok, refl, ap, sym, subst, ◌∙◌, slice_get, arith}
use Rattle.std.proofs.lemmas.Option.{slice_get-map}
use Rattle.std.specs.Option.{option_map}
use Rattle.asm_core.specs.Lists.{IsMember, optional_at}
use Rattle.asm_core.specs.Shape.{shapes_of}
use Rattle.asm_core.specs.Comments.{uncommented}
use Rattle.asm_core.specs.WellFormed.{IsInterface}
use Rattle.asm_core.specs.Pieces.{piece_code, ArePieces}
use Rattle.asm_core.specs.Reading.Cut.{Raw, labels_from, instruction_count}
use Rattle.asm_core.specs.Reading.Facts.{facts_of, atom_of}
use Rattle.asm_core.specs.Reading.Line.{goal_of, line_of, line_read, place_from, readings_from, readings_of, inst_of_reading, lines_under}
use Rattle.asm_core.specs.Reading.Text.{text_inst}
use Rattle.asm_core.specs.Reading.Placed.{is_apart, inst_under}
use Rattle.asm_core.specs.Reading.UnderShape.{IsLettered, body_text, body_reading, HasReading, IsReading, statements_of, instructions_of, IsReadAs, ReadsExactly}
use Rattle.asm_core.proofs.ReadingLaws.BodiesApart.{body_apart}
use Rattle.asm_core.proofs.ReadingLaws.BodiesRead.{body_read, still_read, reading_as, reading_at, instructions-kept, statements-kept, no_label}
use Rattle.asm_core.proofs.ReadingLaws.CutKept.{raw_map, labels_from-kept, instruction_count-kept}
use Rattle.asm_core.proofs.ReadingLaws.HolesNamed.{line_read_named}
use Rattle.asm_core.proofs.ReadingLaws.InstsRead.{insts_are}
use Rattle.asm_core.proofs.ReadingLaws.LinesPlaced.{reading-placed}
use Rattle.asm_core.proofs.ReadingLaws.NamesThere.{names_there}
use Rattle.asm_core.proofs.ReadingLaws.PiecesApart.{are_apart}
use Rattle.asm_core.proofs.ReadingLaws.WrittenCodes.{goal_codes}
use Rattle.asm_core.specs.declared.names.Prefix.{Prefix}
use Rattle.asm_core.specs.declared.names.NameRow.{NameRow}
use Rattle.asm_core.specs.declared.sym.Sym.{Sym}
use Rattle.asm_core.specs.declared.piece.Piece.{Piece}
use Rattle.asm_core.specs.declared.placement.Placement.{Placement}
use Rattle.asm_core.specs.declared.shape.Shape.{Shape}
use Rattle.asm_core.specs.declared.interface.Interface.{Interface}
use Rattle.asm_core.specs.declared.reading.Atom.{Atom}
use Rattle.asm_core.specs.declared.lines.Lines.{Lines}
use Rattle.asm_core.specs.declared.reading.Reading.{Reading}

inst_there : (count : ℕ) (r : Reading) → is_some (inst_of_reading count r) ≡ is_some (line_read r)
inst_there count (Reading.Read l) = refl
inst_there count Reading.LeftOut = refl
inst_there count Reading.Unread = refl

module _ (rows : List NameRow) (i : Interface) (s : Shape) (is : IsInterface i) (some_lettered : IsMember s (shapes_of i) → (q : Placement) × IsLettered i s q) where
  abbrev atoms : List Piece → List Atom
  atoms xs = map (atom_of (facts_of i s)) xs

  -- a body that stands apart is read where it has a reading
  body_exact : (defined : List (List ℕ × ℕ)) (n count place : ℕ) (before : List Prefix) (body : List Piece) → is_apart (map piece_code body) ≡ true
      → IsReading rows i s count (goal_of defined n) before body (inst_of_reading count (line_of rows (goal_of defined n) before place (atoms body)))
  body_exact defined n count place before body apart = record { exact = exact; placed = placed }
    where
      goal : List ℕ → Option (Option ℕ)
      goal = goal_of defined n

      line : Reading
      line = line_of rows goal before place (atoms body)

      there : IsTrue (is_some (inst_of_reading count line)) → IsTrue (is_some (line_read line))
      there h = subst IsTrue (inst_there count line) h

      reading : (q : _) → IsLettered i s q → IsTrue (is_some (inst_of_reading count line)) → HasReading rows i s goal before body
      reading q lettered h = record {
        some = names_there i s is q lettered body (line_read_named goal (goal_codes defined n) rows before place (atoms body) (there h));
        each = λ p unique text by e. rw (body_read rows i s is goal before place p unique text body by apart e, still_read p line) (there h);
      }

      read : HasReading rows i s goal before body → IsTrue (is_some (inst_of_reading count line))
      read has =
          let h = has.each has.some.placement 0 has.some.text has.some.is_lettered has.some.is_text in
          let same = body_read rows i s is goal before place has.some.placement 0 has.some.text body has.some.is_lettered apart has.some.is_text in
          subst IsTrue (sym (inst_there count line)) (rw (same, still_read has.some.placement line) at h)

      exact : IsMember s (shapes_of i) → IsTrue (is_some (inst_of_reading count line)) ↔ HasReading rows i s goal before body
      exact member = let q = some_lettered member in (reading q.0 q.1, read)

      placed : (p : _) (unique : ℕ) (text : _) → IsLettered i s p → body_text i p unique body ≡ Ok text → text_inst count (body_reading rows i s goal before text) ≡ option_map (inst_under p) (inst_of_reading count line)
      placed p unique text lettered e = rw (body_read rows i s is goal before place p unique text body lettered apart e) (reading-placed p count line)

  module _ (ps : List Piece) (apart : is_apart (map piece_code (uncommented piece_code ps)) ≡ true) where
    abbrev raws : List (Raw Piece)
    raws = statements_of ps

    abbrev elements : List (Raw Atom)
    elements = map (raw_map (atom_of (facts_of i s))) raws

    inst_of_raw : (n : ℕ) → Raw Piece → Option Sym
    inst_of_raw n raw = inst_of_reading (instruction_count raws) (reading_as rows (labels_from 0 raws) n (raw_map (atom_of (facts_of i s)) raw))

    element_at : (n : ℕ) (raw : Raw Piece) → slice_get (instructions_of raws) n ≡ Some raw → slice_get (instructions_of elements) n ≡ Some (raw_map (atom_of (facts_of i s)) raw)
    element_at n raw e = rw (instructions-kept (atom_of (facts_of i s)) raws, slice_get-map (raw_map (atom_of (facts_of i s))) (instructions_of raws) n, e) refl

    insts_at : (n : ℕ) (raw : Raw Piece) → slice_get (instructions_of raws) n ≡ Some raw → optional_at (map (inst_of_reading (instruction_count elements)) (readings_of rows elements)) n ≡ inst_of_raw n raw
    unfolding readings_of inst_of_raw
    insts_at n raw e =
        rw (
          slice_get-map (inst_of_reading (instruction_count elements)) (readings_from rows (labels_from 0 elements) 0 elements) n,
          reading_at rows (labels_from 0 elements) 0 n n elements (raw_map (atom_of (facts_of i s)) raw) (element_at n raw e) (omega arith),
          labels_from-kept (atom_of (facts_of i s)) 0 raws,
          instruction_count-kept (atom_of (facts_of i s)) raws,
        ) refl

    read_as : (n : ℕ) (raw : Raw Piece) → slice_get (instructions_of raws) n ≡ Some raw → IsReadAs rows i s raws n raw (inst_of_raw n raw)
    unfolding inst_of_raw
    read_as n (Raw.Named name) e = no_label raws n name e
    read_as n (Raw.Dead from) e = refl
    read_as n (Raw.Live before from body) e =
        body_exact (labels_from 0 raws) n (instruction_count raws) (place_from (atoms from)) before body (body_apart piece_code (uncommented piece_code ps) n before from body apart e)

    reads_exactly : (lines : Lines) → lines_under rows i s ps ≡ Ok lines → ReadsExactly rows i s ps lines
    reads_exactly lines read = record {
      each = λ n raw e. (
          let of : List (Raw Atom) → List (Option Sym) =
          λ rs. map (inst_of_reading (instruction_count rs)) (readings_of rows rs) in
          let insts = sym (ap of (statements-kept i s ps)) ∙ insts_are rows i s ps lines read in
          subst (IsReadAs rows i s raws n raw) (sym (insts_at n raw e) ∙ ap (λ l. optional_at l n) insts) (read_as n raw e)
          );
    }

-- The lines of a template's pieces under a shape have an instruction exactly where the template has one with a reading. That each
-- shape has a placement by letters stands with shapes.
pub pieces_read_exactly : (rows : List NameRow) (i : Interface) (s : Shape) (ps : List Piece) (lines : Lines) → IsInterface i → (IsMember s (shapes_of i) → (q : Placement) × IsLettered i s q)
    → ArePieces (length i.operands) ps → lines_under rows i s ps ≡ Ok lines → ReadsExactly rows i s ps lines
pieces_read_exactly rows i s ps lines is some_lettered pieces read = reads_exactly rows i s is some_lettered ps (are_apart (length i.operands) ps pieces) lines read
