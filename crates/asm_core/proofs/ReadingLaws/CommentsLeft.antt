-- What stands outside comments in a template's text is the text of what stands outside comments in the template.
use Rattle.std.proofs.Common.{◌≡◌, ℕ, suc, ◌==◌, ◌<◌, max, List, [], ◌∷◌, ◌++◌, length, map, Bool, true, false, cond, Option, None, Some, decimal, refl, sym, ◌∙◌, arith}
use Rattle.std.specs.List.{flat_map}
use Rattle.asm_core.specs.Pieces.{piece_code}
use Rattle.asm_core.proofs.ReadingLaws.CommentPlaces.{Place, is_closed, opens_block, place_behind, is_comment, outside_comments}
use Rattle.asm_core.specs.Reading.Text.{sign_code}
use Rattle.asm_core.specs.declared.reading.Sign.{Sign}
use Rattle.asm_core.specs.Expansion.{operand_text, with_origin}
use Rattle.asm_core.specs.declared.piece.Modifier.{Modifier}
use Rattle.asm_core.specs.declared.piece.Piece.{Piece}
use Rattle.asm_core.specs.declared.placement.Placement.{Placement}
use Rattle.asm_core.specs.declared.interface.Interface.{Interface}

-- some byte stands there
pub record IsSome_text (text : List ℕ) : Type 0 where
  pub first : ℕ
  pub rest : List ℕ
  pub whole : text ≡ first ∷ rest

pub some_text : (text : List ℕ) → 0 < length text → IsSome_text text
some_text [] h = absurd (omega arith)
some_text (b ∷ bs) h = record { first = b; rest = bs; whole = refl }

-- what a hole and `%=` are among bytes
data Mark : Type 0 where
  Hole : Mark
  Unique : Mark

abbrev mark_code : Mark → ℕ
mark_code Mark.Hole = 0
mark_code Mark.Unique = 1

abbrev after_mark : Place → Place
after_mark (Place.Outside begins) = Place.Outside false
after_mark Place.Rest = Place.Rest
after_mark Place.Opened = Place.Block false
after_mark (Place.Block star) = Place.Block false

abbrev hides : Place → Bool
hides (Place.Outside begins) = false
hides Place.Rest = true
hides Place.Opened = true
hides (Place.Block star) = true

place_behind-mark : (place : Place) (m : Mark) (cs : List ℕ) → place_behind place (mark_code m) cs ≡ after_mark place
place_behind-mark (Place.Outside true) Mark.Hole cs = refl
place_behind-mark (Place.Outside false) Mark.Hole cs = refl
place_behind-mark Place.Rest Mark.Hole cs = refl
place_behind-mark Place.Opened Mark.Hole cs = refl
place_behind-mark (Place.Block true) Mark.Hole cs = refl
place_behind-mark (Place.Block false) Mark.Hole cs = refl
place_behind-mark (Place.Outside true) Mark.Unique cs = refl
place_behind-mark (Place.Outside false) Mark.Unique cs = refl
place_behind-mark Place.Rest Mark.Unique cs = refl
place_behind-mark Place.Opened Mark.Unique cs = refl
place_behind-mark (Place.Block true) Mark.Unique cs = refl
place_behind-mark (Place.Block false) Mark.Unique cs = refl

is_comment-mark : (place : Place) (m : Mark) (cs : List ℕ) → is_comment place (mark_code m) cs ≡ hides place
is_comment-mark (Place.Outside true) Mark.Hole cs = refl
is_comment-mark (Place.Outside false) Mark.Hole cs = refl
is_comment-mark Place.Rest Mark.Hole cs = refl
is_comment-mark Place.Opened Mark.Hole cs = refl
is_comment-mark (Place.Block true) Mark.Hole cs = refl
is_comment-mark (Place.Block false) Mark.Hole cs = refl
is_comment-mark (Place.Outside true) Mark.Unique cs = refl
is_comment-mark (Place.Outside false) Mark.Unique cs = refl
is_comment-mark Place.Rest Mark.Unique cs = refl
is_comment-mark Place.Opened Mark.Unique cs = refl
is_comment-mark (Place.Block true) Mark.Unique cs = refl
is_comment-mark (Place.Block false) Mark.Unique cs = refl

after_mark-twice : (place : Place) → after_mark (after_mark place) ≡ after_mark place
after_mark-twice (Place.Outside begins) = refl
after_mark-twice Place.Rest = refl
after_mark-twice Place.Opened = refl
after_mark-twice (Place.Block star) = refl

hides-after : (place : Place) → hides (after_mark place) ≡ hides place
hides-after (Place.Outside begins) = refl
hides-after Place.Rest = refl
hides-after Place.Opened = refl
hides-after (Place.Block star) = refl

-- the signs of that origin are such a mark, whatever the byte
record IsMark (origin : ℕ) (m : Mark) : Type 0 where
  each : (b : ℕ) → sign_code (record { byte = b; origin = origin }) ≡ mark_code m

mark_closed_at : (star : Bool) (n : Mark) (cs : List ℕ) → is_closed star (mark_code n ∷ cs) ≡ is_closed false cs
mark_closed_at true Mark.Hole cs = refl
mark_closed_at true Mark.Unique cs = refl
mark_closed_at false Mark.Hole cs = refl
mark_closed_at false Mark.Unique cs = refl

module _ (origin : ℕ) (m : Mark) (is : IsMark origin m) (rest : List Sign) where
  more-closed : (text : List ℕ) → is_closed false (map sign_code (with_origin origin text ++ rest)) ≡ is_closed false (map sign_code rest)
  more-closed [] = refl
  more-closed (b ∷ bs) = rw (is.each b, mark_closed_at false m (map sign_code (with_origin origin bs ++ rest))) (more-closed bs)

  closed-marks : (star : Bool) (b : ℕ) (bs : List ℕ) → is_closed star (map sign_code (with_origin origin (b ∷ bs) ++ rest)) ≡ is_closed false (map sign_code rest)
  closed-marks star b bs = rw (is.each b, mark_closed_at star m (map sign_code (with_origin origin bs ++ rest))) (more-closed bs)

  mark_opens : (n : Mark) (cs : List ℕ) → opens_block (mark_code n ∷ cs) ≡ false
  mark_opens Mark.Hole cs = refl
  mark_opens Mark.Unique cs = refl

  opens-marks : (b : ℕ) (bs : List ℕ) → opens_block (map sign_code (with_origin origin (b ∷ bs) ++ rest)) ≡ false
  opens-marks b bs = rw (is.each b) (mark_opens m (map sign_code (with_origin origin bs ++ rest)))

  same-both : (b : Bool) (xs : List Sign) → xs ≡ cond b xs xs
  same-both true xs = refl
  same-both false xs = refl

  hidden-more : (b : Bool) (x : Sign) (xs ys : List Sign) → cond b (cond b xs ys) (x ∷ cond b xs ys) ≡ cond b xs (x ∷ ys)
  hidden-more true x xs ys = refl
  hidden-more false x xs ys = refl

  outside-more : (place : Place) (text : List ℕ)
      → outside_comments sign_code (after_mark place) (with_origin origin text ++ rest)
      ≡ cond (hides place) (outside_comments sign_code (after_mark place) rest) (with_origin origin text ++ outside_comments sign_code (after_mark place) rest)
  unfolding outside_comments
  outside-more place [] = same-both (hides place) (outside_comments sign_code (after_mark place) rest)
  outside-more place (b ∷ bs) =
      let s = with_origin origin bs ++ rest in
      rw (is.each b, is_comment-mark (after_mark place) m (map sign_code s), place_behind-mark (after_mark place) m (map sign_code s), after_mark-twice place, hides-after place, outside-more place bs)
      (hidden-more (hides place) (record { byte = b; origin = origin }) (outside_comments sign_code (after_mark place) rest) (with_origin origin bs ++ outside_comments sign_code (after_mark place) rest))

  -- a run of signs that are one mark stands in a comment or outside as a whole
  outside-marks : (place : Place) (b : ℕ) (bs : List ℕ)
      → outside_comments sign_code place (with_origin origin (b ∷ bs) ++ rest)
      ≡ cond (hides place) (outside_comments sign_code (after_mark place) rest) (with_origin origin (b ∷ bs) ++ outside_comments sign_code (after_mark place) rest)
  unfolding outside_comments
  outside-marks place b bs =
      let s = with_origin origin bs ++ rest in
      rw (is.each b, is_comment-mark place m (map sign_code s), place_behind-mark place m (map sign_code s), outside-more place bs)
      (hidden-more (hides place) (record { byte = b; origin = origin }) (outside_comments sign_code (after_mark place) rest) (with_origin origin bs ++ outside_comments sign_code (after_mark place) rest))

-- the mark of an origin that isn't the template's
abbrev given_mark : Bool → Mark
given_mark true = Mark.Unique
given_mark false = Mark.Hole

given_code : (b : Bool) → cond b 1 0 ≡ mark_code (given_mark b)
given_code true = refl
given_code false = refl

abbrev operand_mark : ℕ → Mark
operand_mark k = given_mark (k == 254)

is_operand_mark : (k : ℕ) → IsMark (suc k) (operand_mark k)
is_operand_mark k = record { each = λ b. given_code (k == 254) }

is_unique_mark : IsMark 255 Mark.Unique
is_unique_mark = record { each = λ b. refl }

-- the text of an operand, and `?` where it has none
abbrev pub text_or : Option (List ℕ) → List ℕ
text_or None = 63 ∷ []
text_or (Some text) = text

module _ (i : Interface) (p : Placement) (unique : ℕ) where
  -- what a piece gives in the text
  abbrev pub piece_signs : Piece → List Sign
  piece_signs (Piece.Byte b at) = with_origin 0 (b ∷ [])
  piece_signs (Piece.Unique at) = with_origin 255 (decimal unique)
  piece_signs (Piece.Hole k m at) = with_origin (suc k) (text_or (operand_text i p k m))

  abbrev pub signs_of : List Piece → List Sign
  signs_of ps = flat_map piece_signs ps

  -- each operand's text has a byte
  pub record GiveText : Type 0 where
    pub number : IsSome_text (decimal unique)
    pub each : (k : ℕ) (m : Modifier) → IsSome_text (text_or (operand_text i p k m))

  module _ (give : GiveText) where
    given_closed : (star : Bool) (origin : ℕ) (m : Mark) (is : IsMark origin m) (text : List ℕ) (some : IsSome_text text) (rest : List Sign)
        → is_closed star (map sign_code (with_origin origin text ++ rest)) ≡ is_closed false (map sign_code rest)
    given_closed star origin m is text some rest = rw some.whole (closed-marks origin m is rest star some.first some.rest)

    closed-signs : (star : Bool) (ps : List Piece) → is_closed star (map sign_code (signs_of ps)) ≡ is_closed star (map piece_code ps)
    closed-signs star [] = refl
    closed-signs star (Piece.Byte b at ∷ ps) = rw (closed-signs (max b 2 == 42) ps) refl
    closed-signs star (Piece.Unique at ∷ ps) = given_closed star 255 Mark.Unique is_unique_mark (decimal unique) give.number (signs_of ps) ∙ closed-signs false ps ∙ sym (mark_closed_at star Mark.Unique (map piece_code ps))
    closed-signs star (Piece.Hole k m at ∷ ps) =
        given_closed star (suc k) (operand_mark k) (is_operand_mark k) (text_or (operand_text i p k m)) (give.each k m) (signs_of ps) ∙ closed-signs false ps ∙ sym (mark_closed_at star Mark.Hole (map piece_code ps))

    opens-signs : (ps : List Piece) → opens_block (map sign_code (signs_of ps)) ≡ opens_block (map piece_code ps)
    opens-signs [] = refl
    opens-signs (Piece.Byte b at ∷ ps) = rw (closed-signs false ps) refl
    opens-signs (Piece.Unique at ∷ ps) = rw give.number.whole (opens-marks 255 Mark.Unique is_unique_mark (signs_of ps) give.number.first give.number.rest)
    opens-signs (Piece.Hole k m at ∷ ps) = let some = give.each k m in rw some.whole (opens-marks (suc k) (operand_mark k) (is_operand_mark k) (signs_of ps) some.first some.rest)

    behind-signs : (place : Place) (c : ℕ) (ps : List Piece) → place_behind place c (map sign_code (signs_of ps)) ≡ place_behind place c (map piece_code ps)
    behind-signs (Place.Outside begins) c ps = rw (opens-signs ps) refl
    behind-signs Place.Rest c ps = refl
    behind-signs Place.Opened c ps = refl
    behind-signs (Place.Block star) c ps = refl

    comment-signs : (place : Place) (c : ℕ) (ps : List Piece) → is_comment place c (map sign_code (signs_of ps)) ≡ is_comment place c (map piece_code ps)
    comment-signs place c ps = rw (behind-signs place c ps) refl

    signs-if : (b : Bool) (x : Piece) (xs : List Piece) → cond b (signs_of xs) (piece_signs x ++ signs_of xs) ≡ signs_of (cond b xs (x ∷ xs))
    signs-if true x xs = refl
    signs-if false x xs = refl

    outside-given : (place : Place) (x : Piece) (n : Mark) (origin : ℕ) (m : Mark) (is : IsMark origin m) (text : List ℕ) (some : IsSome_text text) (ps : List Piece)
        → piece_code x ≡ mark_code n → piece_signs x ≡ with_origin origin text
        → outside_comments sign_code (after_mark place) (signs_of ps) ≡ signs_of (outside_comments piece_code (after_mark place) ps)
        → outside_comments sign_code place (with_origin origin text ++ signs_of ps) ≡ signs_of (outside_comments piece_code place (x ∷ ps))
    unfolding outside_comments
    outside-given place x n origin m is text some ps code signs same =
        let marks = outside-marks origin m is (signs_of ps) place some.first some.rest in
        let given : outside_comments sign_code place (with_origin origin text ++ signs_of ps)
        ≡ cond (hides place) (signs_of (outside_comments piece_code (after_mark place) ps)) (piece_signs x ++ signs_of (outside_comments piece_code (after_mark place) ps))
        = rw (signs, some.whole, ← same) marks in
        given
        ∙ rw (code, is_comment-mark place n (map piece_code ps), place_behind-mark place n (map piece_code ps)) (signs-if (hides place) x (outside_comments piece_code (after_mark place) ps))

    -- comments stand in the text where they stand in the template
    pub outside-signs : (place : Place) (ps : List Piece) → outside_comments sign_code place (signs_of ps) ≡ signs_of (outside_comments piece_code place ps)
    unfolding outside_comments
    outside-signs place [] = refl
    outside-signs place (Piece.Byte b at ∷ ps) =
        let c = max b 2 in
        let behind = place_behind place c (map piece_code ps) in
        rw (comment-signs place c ps, behind-signs place c ps, outside-signs behind ps)
        (signs-if (is_comment place c (map piece_code ps)) (Piece.Byte b at) (outside_comments piece_code behind ps))
    outside-signs place (Piece.Unique at ∷ ps) =
        outside-given place (Piece.Unique at) Mark.Unique 255 Mark.Unique is_unique_mark (decimal unique) give.number ps refl refl (outside-signs (after_mark place) ps)
    outside-signs place (Piece.Hole k m at ∷ ps) =
        outside-given place (Piece.Hole k m at) Mark.Hole (suc k) (operand_mark k) (is_operand_mark k) (text_or (operand_text i p k m)) (give.each k m) ps refl refl (outside-signs (after_mark place) ps)
