-- The text of an instruction's body under a placement by letters says what the body says, placed.
use Rattle.std.proofs.Common.{◌≡◌, ℕ, zero, suc, ◌+◌, List, [], ◌∷◌, map, true, false, is_some, Option, Some, Ok, refl, slice_get, arith}
use Rattle.asm_core.specs.WellFormed.{IsInterface}
use Rattle.asm_core.specs.Pieces.{piece_code}
use Rattle.asm_core.specs.Expansion.{piece_text, expansion_with}
use Rattle.asm_core.specs.Reading.Cut.{Raw}
use Rattle.asm_core.specs.Reading.Operands.{atom_code}
use Rattle.asm_core.specs.Reading.Facts.{facts_of, atom_of}
use Rattle.asm_core.specs.Reading.Line.{Defined, goal_of, line_of, line_read, place_from, readings_from, template_raws}
use Rattle.asm_core.specs.Reading.Text.{runs_of, atom_of_run}
use Rattle.asm_core.specs.Reading.Placed.{is_apart}
use Rattle.asm_core.specs.Reading.UnderShape.{IsLettered, body_text, body_reading, statements_of, instructions_of}
use Rattle.asm_core.proofs.ReadingLaws.CommentsLeft.{signs_of}
use Rattle.asm_core.proofs.ReadingLaws.CutKept.{raw_map, raws_of-kept}
use Rattle.asm_core.proofs.ReadingLaws.Law.{give_text, atoms-named}
use Rattle.asm_core.proofs.ReadingLaws.LinesPlaced.{placed_reading, line_of-placed}
use Rattle.asm_core.proofs.ReadingLaws.OperandsPlaced.{placed_all}
use Rattle.asm_core.proofs.ReadingLaws.Runs.{runs-signs, AreNamed, IsThat, Where, piece-that, onto-that, that_is, piece-named, onto-named, where_ok}
use Rattle.asm_core.specs.declared.names.Prefix.{Prefix}
use Rattle.asm_core.specs.declared.names.NameRow.{NameRow}
use Rattle.asm_core.specs.declared.piece.Piece.{Piece}
use Rattle.asm_core.specs.declared.placement.Placement.{Placement}
use Rattle.asm_core.specs.declared.shape.Shape.{Shape}
use Rattle.asm_core.specs.declared.interface.Interface.{Interface}
use Rattle.asm_core.specs.declared.reading.Atom.{Atom}
use Rattle.asm_core.specs.declared.reading.Reading.{Reading}
use Rattle.asm_core.specs.declared.reading.Sign.{Sign}

module _ (i : Interface) (p : Placement) (unique : ℕ) where
  body-that : (body : List Piece) → IsThat i p unique (body_text i p unique body) (signs_of i p unique body)
  unfolding expansion_with
  body-that [] = refl
  body-that (x ∷ xs) = onto-that i p unique (piece_text i p unique false x) (body_text i p unique xs) _ _ (piece-that i p unique false x) (body-that xs)

  names-where : (body : List Piece) → Where i p unique (body_text i p unique body) (AreNamed i p unique body)
  unfolding expansion_with
  names-where [] = tt
  names-where (x ∷ xs) = onto-named i p unique (piece_text i p unique false x) (body_text i p unique xs) _ _ (piece-named i p unique x) (names-where xs)

  -- a text that exists names each operand of the body
  pub body-named : (body : List Piece) (text : List Sign) → body_text i p unique body ≡ Ok text → AreNamed i p unique body
  body-named body text e = where_ok i p unique (body_text i p unique body) text (AreNamed i p unique body) (names-where body) e

module _ (rows : List NameRow) (i : Interface) (s : Shape) (is : IsInterface i) where
  -- the elements of the body's text are those of the body, placed
  body_atoms : (p : Placement) (unique : ℕ) (text : List Sign) (body : List Piece) → IsLettered i s p → is_apart (map piece_code body) ≡ true → body_text i p unique body ≡ Ok text
      → map (atom_of_run (facts_of i s)) (runs_of text) ≡ placed_all p (map (atom_of (facts_of i s)) body)
  body_atoms p unique text body lettered apart e =
      rw (that_is i p unique (body_text i p unique body) text (signs_of i p unique body) (body-that i p unique body) e, runs-signs i p unique (give_text i p unique) body apart)
      (atoms-named rows i s is p unique lettered body (body-named i p unique body text e))

  -- each placement by letters that names the body's operands gives it the same reading, placed
  pub body_read : (goal : List ℕ → Option (Option ℕ)) (before : List Prefix) (place : ℕ) (p : Placement) (unique : ℕ) (text : List Sign) (body : List Piece) → IsLettered i s p → is_apart (map piece_code body) ≡ true
      → body_text i p unique body ≡ Ok text → body_reading rows i s goal before text ≡ placed_reading p (line_of rows goal before place (map (atom_of (facts_of i s)) body))
  body_read goal before place p unique text body lettered apart e =
      rw (body_atoms p unique text body lettered apart e) (line_of-placed p rows goal before place (map (atom_of (facts_of i s)) body))

pub still_read : (p : Placement) (r : Reading) → is_some (line_read (placed_reading p r)) ≡ is_some (line_read r)
still_read p (Reading.Read l) = refl
still_read p Reading.LeftOut = refl
still_read p Reading.Unread = refl

-- what an instruction of that number is read as
abbrev pub reading_as : List NameRow → List Defined → ℕ → Raw Atom → Reading
reading_as rows labels n (Raw.Named name) = Reading.Unread
reading_as rows labels n (Raw.Dead from) = Reading.Unread
reading_as rows labels n (Raw.Live before from body) = line_of rows (goal_of labels n) before (place_from from) body

-- the readings are those of the instructions, one by one
pub reading_at : (rows : List NameRow) (labels : List Defined) (first n m : ℕ) (raws : List (Raw Atom)) (raw : Raw Atom) → slice_get (instructions_of raws) n ≡ Some raw → m ≡ first + n
    → slice_get (readings_from rows labels first raws) n ≡ Some (reading_as rows labels m raw)
unfolding readings_from
reading_at rows labels first n m [] raw e at = cc
reading_at rows labels first n m (Raw.Named name ∷ raws) raw e at = reading_at rows labels first n m raws raw e at
reading_at rows labels first zero m (Raw.Dead from ∷ raws) raw e at = let same : Raw.Dead from ≡ raw = cc in rw (← same) refl
reading_at rows labels first (suc n) m (Raw.Dead from ∷ raws) raw e at = reading_at rows labels (first + 1) n m raws raw e (omega arith)
reading_at rows labels first zero m (Raw.Live before from body ∷ raws) raw e at =
    let same : Raw.Live before from body ≡ raw = cc in
    let here : first ≡ m = omega arith in
    rw (← same, here) refl
reading_at rows labels first (suc n) m (Raw.Live before from body ∷ raws) raw e at = reading_at rows labels (first + 1) n m raws raw e (omega arith)

pub instructions-kept : {X Y : Type 0} (f : X → Y) (raws : List (Raw X)) → instructions_of (map (raw_map f) raws) ≡ map (raw_map f) (instructions_of raws)
instructions-kept f [] = refl
instructions-kept f (Raw.Named name ∷ raws) = instructions-kept f raws
instructions-kept f (Raw.Dead from ∷ raws) = rw (instructions-kept f raws) refl
instructions-kept f (Raw.Live before from body ∷ raws) = rw (instructions-kept f raws) refl

-- a template's elements are cut as its pieces are
pub statements-kept : (i : Interface) (s : Shape) (ps : List Piece) → template_raws i s ps ≡ map (raw_map (atom_of (facts_of i s))) (statements_of ps)
unfolding template_raws
statements-kept i s ps = raws_of-kept piece_code atom_code (atom_of (facts_of i s)) (record { each = λ x. refl }) _

-- a label is no instruction
pub no_label : {X : Type 0} (raws : List (Raw X)) (n : ℕ) (name : List ℕ) → slice_get (instructions_of raws) n ≡ Some (Raw.Named name) → ⊥
no_label [] n name e = cc
no_label (Raw.Named w ∷ raws) n name e = no_label raws n name e
no_label (Raw.Dead from ∷ raws) zero name e = cc
no_label (Raw.Dead from ∷ raws) (suc n) name e = no_label raws n name e
no_label (Raw.Live before from body ∷ raws) zero name e = cc
no_label (Raw.Live before from body ∷ raws) (suc n) name e = no_label raws n name e
