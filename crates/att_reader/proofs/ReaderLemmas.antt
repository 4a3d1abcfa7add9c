-- The readings of instructions, and what the bodies of instructions are made of.
use Rattle.std.proofs.Common.{◌≡◌, ℕ, suc, ◌+◌, ◌<◌, ◌≤◌, Bool, true, false, cond, List, [], ◌∷◌, ◌++◌, length, map, take, drop, refl, sym, ap, ◌∙◌, arith, append_assoc}
use Rattle.std.proofs.Common.{nat_lt, Ok, Err}
use Rattle.std.proofs.lemmas.Bool.{lt-ltb}
use Rattle.std.proofs.lemmas.Bool.Decides.{nat_tests}
use Rattle.std.proofs.lemmas.List.{append-nil}
use Rattle.asm_core.specs.Comments.{comments_of}
use Rattle.asm_core.specs.Pieces.{ArePieces, piece_code}
use Rattle.asm_core.specs.WellFormed.{IsInterface}
use Rattle.asm_core.specs.Reading.Facts.{facts_of}
use Rattle.asm_core.specs.Reading.Operands.{atom_code}
use Rattle.asm_core.specs.declared.interface.Interface.{Interface}
use Rattle.asm_core.specs.declared.shape.Shape.{Shape}
use Rattle.asm_core.specs.declared.piece.Piece.{Piece}
use Rattle.asm_core.specs.declared.lines.LinesEnd.{LinesEnd}
use Rattle.asm_core.specs.declared.lines.Lines.{Lines}
use Rattle.asm_core.specs.declared.reading.Reading.{Reading}
use Rattle.att_reader.specs.Elements.{atoms_under}
use Rattle.att_reader.specs.Named.{BodiesBelow}
use Rattle.att_reader.proofs.BelowLemmas.{bodies_below, kept_below}
use Rattle.asm_core.specs.Reading.Cut.{Raw, raws_of, instruction_count, labels_from}
use Rattle.asm_core.specs.Reading.Line.{Defined, labels_of, readings_from, readings_of, template_raws, lines_of_raws, lines_with, inst_of_reading, places_of, named_of, left_out_from, targets_from}
use Rattle.asm_core.specs.declared.lines.Label.{Label}
use Rattle.asm_core.specs.declared.names.NameRow.{NameRow}
use Rattle.asm_core.specs.declared.reading.Atom.{Atom}
use Rattle.att_reader.specs.Labels.{labelled}
use Rattle.att_reader.specs.Text.{defined}

pub defined_labelled : (ls : List Defined) → map defined (labelled ls) ≡ ls
defined_labelled [] = refl
defined_labelled (l ∷ ls) = ap (λ (rest : List Defined). l ∷ rest) (defined_labelled ls)

pub readings_are : (rows : List NameRow) (labels : List Label) (raws : List (Raw Atom)) → labels ≡ labels_of raws → readings_from rows (map defined labels) 0 raws ≡ readings_of rows raws
unfolding readings_of
readings_are rows labels raws is = ap (λ (ls : List Defined). readings_from rows ls 0 raws) (ap (λ (ls : List Label). map defined ls) is ∙ defined_labelled (labels_from 0 raws))

pub readings-length : (rows : List NameRow) (ls : List Defined) (n : ℕ) (raws : List (Raw Atom)) → length (readings_from rows ls n raws) ≡ instruction_count raws
unfolding readings_from
readings-length rows ls n [] = refl
readings-length rows ls n (Raw.Named name ∷ raws) = readings-length rows ls n raws
readings-length rows ls n (Raw.Dead from ∷ raws) = rw (readings-length rows ls (n + 1) raws) (omega arith)
readings-length rows ls n (Raw.Live before from body ∷ raws) = rw (readings-length rows ls (n + 1) raws) (omega arith)

pub ruleset reading_steps = (append_assoc, append-nil)

-- the labels and instructions that are cut are those of the definition
pub raws_same : (i : Interface) (s : Shape) (ps : List Piece) (atoms : List Atom) (raws : List (Raw Atom)) → atoms ≡ atoms_under i s ps → raws ≡ raws_of atom_code atoms → raws ≡ template_raws i s ps
unfolding template_raws
raws_same i s ps atoms raws of is = is ∙ ap (raws_of atom_code) of

pub too_many : (rows : List NameRow) (raws : List (Raw Atom)) → 512 < instruction_count raws → lines_of_raws rows raws ≡ Err LinesEnd.TooMany
too_many rows raws lt = rw (lt-ltb 512 (instruction_count raws) lt) refl

pub not_many : (rows : List NameRow) (raws : List (Raw Atom)) → instruction_count raws ≤ 512 → lines_of_raws rows raws ≡ Ok (lines_with raws (readings_of rows raws))
not_many rows raws le =
    let few : nat_lt 512 (instruction_count raws) ≡ false = grind (arith, nat_tests) in
    rw few refl

pub template_below : (i : Interface) (s : Shape) (ps : List Piece) (atoms : List Atom) → IsInterface i → ArePieces (length i.operands) ps → atoms ≡ atoms_under i s ps → BodiesBelow 32 (raws_of atom_code atoms)
template_below i s ps atoms is pieces of =
    rw of (bodies_below 32 (atoms_under i s ps) (kept_below (facts_of i s) (length i.operands) ps (comments_of (map piece_code ps)) (omega (arith, is.few)) pieces.numbered))

pub lines_made : (raws : List (Raw Atom)) (readings : List Reading) (l : Lines) → l.insts ≡ map (inst_of_reading (instruction_count raws)) readings → l.places ≡ places_of raws → l.named ≡ named_of raws
    → l.left_out ≡ left_out_from 0 readings → l.labels ≡ labels_of raws → l.targets ≡ targets_from 0 readings → l ≡ lines_with raws readings
lines_made raws readings l insts places named left_out labels targets = rw (← insts, ← places, ← named, ← left_out, ← labels, ← targets) refl
