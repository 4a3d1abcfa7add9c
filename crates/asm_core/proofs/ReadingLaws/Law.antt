-- Reading a template with holes and then placing is reading its text.
use Rattle.std.proofs.Common.{◌≡◌, ℕ, zero, suc, ◌/◌, ◌%◌, ◌==◌, nat_lt, ℤ, pos, negsuc, List, [], ◌∷◌, ◌++◌, map, Bool, true, false, cond, Option, None, Some, Ok, Err, decimal, refl, ap, subst, ◌∙◌, slice_get, arith, sym, length}
use Rattle.std.proofs.lemmas.Bool.{ne_eqb}
use Rattle.std.specs.Fmt.{signed_decimal, digits, digits_onto, digit_glyph}
use Rattle.std.specs.Option.{option_map, option_and_then}
use Rattle.asm_core.specs.Comments.{uncommented}
use Rattle.asm_core.proofs.ReadingLaws.CommentsAlike.{uncommented-alike, expansion_of-alike}
use Rattle.asm_core.specs.Placement.{spot_of, Fits, IsAllowed}
use Rattle.asm_core.specs.WellFormed.{IsInterface}
use Rattle.asm_core.specs.Pieces.{piece_code, ArePieces}
use Rattle.asm_core.proofs.ReadingLaws.PiecesApart.{are_apart}
use Rattle.asm_core.proofs.ReadingLaws.CommentPlaces.{expansion_from, outside_comments}
use Rattle.asm_core.proofs.ReadingLaws.CommentPlaces as comments
use Rattle.asm_core.specs.Reading.Cut.{Raw, raws_of, instruction_count}
use Rattle.asm_core.specs.Reading.Operands.{atom_code}
use Rattle.asm_core.specs.Reading.Facts.{facts_of, slice_of, atom_of}
use Rattle.asm_core.specs.Reading.Line.{readings_of, lines_with, template_raws, lines_under}
use Rattle.asm_core.specs.Reading.Text.{sign_code, runs_of, atom_with, atom_of_run, text_raws, code_of_text}
use Rattle.asm_core.specs.Reading.UnderShape.{LettersFit, IsLettered}
use Rattle.asm_core.specs.declared.reading.Sign.{Sign}
use Rattle.asm_core.specs.Reading.Placed.{is_apart, code_under, ReadsWhole}
use Rattle.asm_core.specs.Expansion.{name_of, register_text, number_text, registers_text, disp_text, form_text, memory_text, printed, operand_text, expansion_of}
use Rattle.asm_core.proofs.ReadingLaws.CommentsLeft.{IsSome_text, text_or, GiveText, outside-signs}
use Rattle.asm_core.proofs.ReadingLaws.Runs.{run_of, runs-signs, IsNamed, AreNamed, expansion-signs, expansion-named}
use Rattle.asm_core.proofs.ReadingLaws.OperandsPlaced.{placed_atom, placed_all}
use Rattle.asm_core.proofs.ReadingLaws.OperandsBack.{hole_back, operand_below}
use Rattle.asm_core.proofs.ReadingLaws.LinesPlaced.{code-placed}
use Rattle.asm_core.specs.declared.reg.Reg.{Reg}
use Rattle.asm_core.specs.declared.reg.Slice.{Slice}
use Rattle.asm_core.specs.declared.piece.Modifier.{Modifier}
use Rattle.asm_core.specs.declared.piece.Piece.{Piece}
use Rattle.asm_core.specs.declared.names.NameRow.{NameRow}
use Rattle.asm_core.specs.declared.placement.Base.{Base}
use Rattle.asm_core.specs.declared.placement.Form.{Form}
use Rattle.asm_core.specs.declared.placement.Spot.{Spot}
use Rattle.asm_core.specs.declared.placement.Placement.{Placement}
use Rattle.asm_core.specs.declared.shape.Kind.{Kind}
use Rattle.asm_core.specs.declared.shape.Shape.{Shape}
use Rattle.asm_core.specs.declared.interface.AltIface.{AltIface}
use Rattle.asm_core.specs.declared.interface.OperandIface.{OperandIface}
use Rattle.asm_core.specs.declared.interface.Interface.{Interface}
use Rattle.asm_core.specs.declared.reading.Atom.{Atom}
use Rattle.asm_core.specs.declared.lines.Lines.{Lines}
use Rattle.asm_core.specs.declared.lines.LinesEnd.{LinesEnd}

some_at : (first : ℕ) (rest text : List ℕ) → text ≡ first ∷ rest → IsSome_text text
some_at first rest text e = record { first = first; rest = rest; whole = e }

some_before : (xs : List ℕ) (c : ℕ) (ys : List ℕ) → IsSome_text (xs ++ c ∷ ys)
some_before [] c ys = some_at c ys _ refl
some_before (x ∷ xs) c ys = some_at x (xs ++ c ∷ ys) _ refl

-- a number has at least one digit
some_if : (b : Bool) (c : ℕ) (behind more : List ℕ) → IsSome_text more → IsSome_text (cond b (c ∷ behind) more)
some_if true c behind more some = some_at c behind _ refl
some_if false c behind more some = some

some_digits : (turns : ℕ) (base : ℕ) (upper : Bool) (n : ℕ) (behind : List ℕ) → IsSome_text behind → IsSome_text (digits_onto turns base upper n behind)
some_digits zero base upper n behind some = some
some_digits (suc turns) base upper n behind some =
    let c = digit_glyph upper (n % base) in
    some_if (n / base == 0) c behind _ (some_digits turns base upper (n / base) (c ∷ behind) (some_at c behind _ refl))

some_first : (turns base : ℕ) (upper : Bool) (n : ℕ) → IsSome_text (digits_onto (suc turns) base upper n [])
some_first turns base upper n =
    let c = digit_glyph upper (n % base) in
    some_if (n / base == 0) c [] _ (some_digits turns base upper (n / base) (c ∷ []) (some_at c [] _ refl))

some_decimal : (n : ℕ) → IsSome_text (decimal n)
unfolding digits
some_decimal n = some_first 63 10 false n

some_number : (n : ℤ) → IsSome_text (signed_decimal n)
some_number (pos n) = some_decimal n
some_number (negsuc n) = some_at 45 (decimal (suc n)) _ refl

some_form : (d : ℤ) (base : Option Base) (index : Option (Reg × ℕ)) → IsSome_text (form_text (record { disp = d; base = base; index = index }))
some_form d None None = some_number d
some_form d (Some b) index = some_before (disp_text d) 40 (registers_text (Some b) index ++ 41 ∷ [])
some_form d None (Some x) = some_before (disp_text d) 40 (registers_text None (Some x) ++ 41 ∷ [])

some_register : (r : Reg) (s : Option Slice) (text : List ℕ) → register_text r s ≡ Some text → IsSome_text text
some_register r None text e = cc
some_register r (Some s) text e = by_name (name_of r s) e
  where
    by_name : (name : Option (List ℕ)) → option_map (λ (n : List ℕ). 37 ∷ n) name ≡ Some text → IsSome_text text
    by_name None same = cc
    by_name (Some name) same = some_at 37 name text (cc)

same_some : (xs text : List ℕ) → IsSome_text xs → Some xs ≡ Some text → IsSome_text text
same_some xs text some e = let one : xs ≡ text = cc in subst IsSome_text one some

some_number_text : (n : ℤ) (m : Modifier) (text : List ℕ) → number_text n m ≡ Some text → IsSome_text text
some_number_text n Modifier.H text e = cc
some_number_text n Modifier.C text e = same_some (signed_decimal n) text (some_number n) e
some_number_text n Modifier.Plain text e = same_some (36 ∷ signed_decimal n) text (some_at 36 (signed_decimal n) _ refl) e
some_number_text n Modifier.B text e = same_some (36 ∷ signed_decimal n) text (some_at 36 (signed_decimal n) _ refl) e
some_number_text n Modifier.W text e = same_some (36 ∷ signed_decimal n) text (some_at 36 (signed_decimal n) _ refl) e
some_number_text n Modifier.K text e = same_some (36 ∷ signed_decimal n) text (some_at 36 (signed_decimal n) _ refl) e

some_memory_text : (f : Form) (m : Modifier) (text : List ℕ) → IsSome_text (form_text f) → memory_text f m ≡ Some text → IsSome_text text
some_memory_text f Modifier.H text some e = cc
some_memory_text f Modifier.C text some e = cc
some_memory_text f Modifier.Plain text some e = same_some (form_text f) text some e
some_memory_text f Modifier.B text some e = same_some (form_text f) text some e
some_memory_text f Modifier.W text some e = same_some (form_text f) text some e
some_memory_text f Modifier.K text some e = same_some (form_text f) text some e

some_printed : (size : ℕ) (m : Modifier) (spot : Spot) (text : List ℕ) → printed size m spot ≡ Some text → IsSome_text text
some_printed size m (Spot.Register r) text e = some_register r (slice_of size m) text e
some_printed size m Spot.Pair text e = some_register Reg.Eax (slice_of size m) text e
some_printed size m (Spot.Number n) text e = some_number_text n m text e
some_printed size m (Spot.Memory f) text e = some_memory_text f m text (some_form f.disp f.base f.index) e

module _ (i : Interface) (p : Placement) where
  some_operand : (k : ℕ) (m : Modifier) (o : Option OperandIface) → IsSome_text (text_or (option_and_then (λ (q : OperandIface). printed q.size m (spot_of p k)) o))
  some_operand k m None = some_at 63 [] _ refl
  some_operand k m (Some o) = by (printed o.size m (spot_of p k)) refl
    where
      by : (text : Option (List ℕ)) → printed o.size m (spot_of p k) ≡ text → IsSome_text (text_or text)
      by None e = some_at 63 [] _ refl
      by (Some text) e = some_printed o.size m (spot_of p k) text e

  pub give_text : (unique : ℕ) → GiveText i p unique
  give_text unique = record { number = some_decimal unique; each = λ k m. some_operand k m (slice_get i.operands k) }

module _ (rows : List NameRow) (i : Interface) (s : Shape) (is : IsInterface i) where
  module _ (p : Placement) (unique : ℕ) (lettered : IsLettered i s p) where
    hole_atom : (k : ℕ) (m : Modifier) (at : ℕ) (text : List ℕ) → operand_text i p k m ≡ Some text
        → atom_of_run (facts_of i s) (run_of i p unique (Piece.Hole k m at)) ≡ placed_atom p (atom_of (facts_of i s) (Piece.Hole k m at))
    hole_atom k m at text e =
        let low = operand_below i s is p lettered k m text e in
        rw (ne_eqb k 254 (λ same. absurd (omega (arith, same))), e) (ap (atom_with (Piece.Hole k Modifier.Plain 0)) (hole_back i s is p lettered k m text e))

    atom-named : (x : Piece) → IsNamed i p unique x → atom_of_run (facts_of i s) (run_of i p unique x) ≡ placed_atom p (atom_of (facts_of i s) x)
    atom-named (Piece.Byte b at) named = refl
    atom-named (Piece.Unique at) named = refl
    atom-named (Piece.Hole k m at) named = hole_atom k m at named.0 named.1

    pub atoms-named : (xs : List Piece) → AreNamed i p unique xs → map (atom_of_run (facts_of i s)) (map (run_of i p unique) xs) ≡ map (placed_atom p) (map (atom_of (facts_of i s)) xs)
    atoms-named [] named = refl
    atoms-named (x ∷ xs) named = rw (atom-named x named.0, atoms-named xs named.1) refl

    -- the elements of the text are those of the template, placed
    text_atoms : (ps : List Piece) (text : List Sign) → is_apart (map piece_code (uncommented piece_code ps)) ≡ true → expansion_of i p unique ps ≡ Ok text
        → map (atom_of_run (facts_of i s)) (runs_of (uncommented sign_code text)) ≡ placed_all p (map (atom_of (facts_of i s)) (uncommented piece_code ps))
    text_atoms ps text apart e =
        let give = give_text i p unique in
        let left = outside_comments piece_code (comments.Outside true) ps in
        let given : expansion_from i p unique (comments.Outside true) ps ≡ Ok text = sym (expansion_of-alike i p unique ps) ∙ e in
        let apart_left : is_apart (map piece_code left) ≡ true = rw (uncommented-alike piece_code ps) at apart in
        rw (uncommented-alike piece_code ps, uncommented-alike sign_code text, expansion-signs i p unique (comments.Outside true) ps text given, outside-signs i p unique give (comments.Outside true) ps, runs-signs i p unique give left apart_left)
        (atoms-named left (expansion-named i p unique (comments.Outside true) ps text given))

    lines_are : (raws : List (Raw Atom)) (b : Bool) (lines : Lines) → cond b (Err LinesEnd.TooMany) (Ok (lines_with raws (readings_of rows raws))) ≡ Ok lines → lines_with raws (readings_of rows raws) ≡ lines
    lines_are raws true lines e = cc
    lines_are raws false lines e = cc

    text_code : (ps : List Piece) (text : List Sign) (lines : Lines) → is_apart (map piece_code (uncommented piece_code ps)) ≡ true
        → lines_under rows i s ps ≡ Ok lines → expansion_of i p unique ps ≡ Ok text → code_of_text rows i s text ≡ code_under p lines
    unfolding text_raws template_raws
    text_code ps text lines apart read e =
        let atoms = map (atom_of (facts_of i s)) (uncommented piece_code ps) in
        let raws = raws_of atom_code atoms in
        rw (text_atoms ps text apart e) (code-placed p rows atoms) ∙ ap (code_under p) (lines_are raws (nat_lt 512 (instruction_count raws)) lines read)

  -- Where what stands outside comments stands apart, the lines under a shape are those of the text under each placement by letters.
  pub text_lettered : (p : Placement) (unique : ℕ) (text : List Sign) (ps : List Piece) (lines : Lines) → IsLettered i s p → is_apart (map piece_code (uncommented piece_code ps)) ≡ true
      → lines_under rows i s ps ≡ Ok lines → expansion_of i p unique ps ≡ Ok text → code_of_text rows i s text ≡ code_under p lines
  text_lettered p unique text ps lines lettered apart read e = text_code p unique lettered ps text lines apart read e

-- where an alternative lets an operand be, its letters do
letters_fit : (i : Interface) (o : OperandIface) (alt : AltIface) (kind : Kind) (spot : Spot) → Fits i o alt kind spot → LettersFit o alt kind spot
letters_fit i o alt Kind.Register (Spot.Register r) fits = fits.0
letters_fit i o alt Kind.Register Spot.Pair fits = fits.0
letters_fit i o alt Kind.Register (Spot.Memory f) fits = absurd fits
letters_fit i o alt Kind.Register (Spot.Number n) fits = absurd fits
letters_fit i o alt Kind.Memory (Spot.Memory f) fits = fits.0
letters_fit i o alt Kind.Memory (Spot.Register r) fits = absurd fits
letters_fit i o alt Kind.Memory Spot.Pair fits = absurd fits
letters_fit i o alt Kind.Memory (Spot.Number n) fits = absurd fits
letters_fit i o alt Kind.Number (Spot.Number n) fits = fits
letters_fit i o alt Kind.Number (Spot.Register r) fits = absurd fits
letters_fit i o alt Kind.Number Spot.Pair fits = absurd fits
letters_fit i o alt Kind.Number (Spot.Memory f) fits = absurd fits

-- an allowed placement is one by letters
pub is_lettered : (i : Interface) (s : Shape) (p : Placement) → IsAllowed i s p → IsLettered i s p
is_lettered i s p allowed = record {
  count = allowed.count;
  fits = λ k o alt kind has untied. letters_fit i o alt kind (spot_of p k) (allowed.fits k o alt kind has untied);
  ties = allowed.ties;
}

-- The lines of a template's pieces under a shape are those of the text under each allowed placement.
pub pieces_read_whole : (rows : List NameRow) (i : Interface) (s : Shape) (ps : List Piece) (lines : Lines) → IsInterface i → ArePieces (length i.operands) ps → lines_under rows i s ps ≡ Ok lines → ReadsWhole rows i s ps lines
pieces_read_whole rows i s ps lines is pieces read = record {
  each = λ p unique text allowed small e. text_lettered rows i s is p unique text ps lines (is_lettered i s p allowed) (are_apart (length i.operands) ps pieces) read e;
}
