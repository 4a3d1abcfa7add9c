-- What stands outside comments, by going on from one element to the next, is what stands outside the comments that are found
-- by their ends.
use Rattle.std.proofs.Common.{◌≡◌, ℕ, ◌+◌, ◌-◌, ◌==◌, ◌&&◌, ◌||◌, ◌<◌, ◌≤◌, nat_lt, List, [], ◌∷◌, map, drop, get_or, Bool, true, false, cond, Option, None, Some, is_some, refl, ap, sym, ◌∙◌, slice_index, eq-eqb, arith}
use Rattle.std.proofs.lemmas.List.{get_or-drop, drop-drop}
use Rattle.std.proofs.lemmas.Bool.{eqb-true, ne_eqb, lt-ltb, le-ltb}
use Rattle.std.proofs.Math.Bool.{and-true}
use Rattle.asm_core.specs.Pieces.{piece_code}
use Rattle.asm_core.specs.Expansion.{piece_text, expansion_with, expansion_of}
use Rattle.asm_core.specs.declared.piece.Piece.{Piece}
use Rattle.asm_core.specs.declared.placement.Placement.{Placement}
use Rattle.asm_core.specs.declared.interface.Interface.{Interface}
use Rattle.asm_core.specs.Comments.{is_one_of, comment_breaks, line_end, block_end, comment_end, comment_until, comments_from, kept, uncommented}
use Rattle.asm_core.proofs.ReadingLaws.CommentPlaces.{expansion_from, Place, is_closed, opens_block, place_behind, is_inside, is_comment, outside_comments}

-- an end stands behind its beginning
line_end-le : (i : ℕ) (cs : List ℕ) → i ≤ line_end i cs
unfolding line_end
line_end-le i [] = omega arith
line_end-le i (c ∷ cs) = by (c == 10) (line_end-le (i + 1) cs)
  where
    by : (b : Bool) → i + 1 ≤ line_end (i + 1) cs → i ≤ cond b i (line_end (i + 1) cs)
    by true h = omega arith
    by false h = omega arith

block_end-le : (i e : ℕ) (cs : List ℕ) → block_end i cs ≡ Some e → i + 2 ≤ e
unfolding block_end
block_end-le i e [] h = cc
block_end-le i e (c ∷ cs) h = by ((c == 42) && (slice_index cs 0 == 47)) h (block_end-le (i + 1) e cs)
  where
    by : (b : Bool) → cond b (Some (i + 2)) (block_end (i + 1) cs) ≡ Some e → (block_end (i + 1) cs ≡ Some e → i + 1 + 2 ≤ e) → i + 2 ≤ e
    by true h more = let same : i + 2 ≡ e = cc in omega arith
    by false h more = let low = more h in omega arith

closed_star : (b : Bool) (cs : List ℕ) → is_closed b cs ≡ ((b && (slice_index cs 0 == 47)) || is_closed false cs)
closed_star true [] = refl
closed_star false [] = refl
closed_star true (c ∷ cs) = refl
closed_star false (c ∷ cs) = refl

-- `*/` stands there exactly where a block comment ends
closed-ends : (i : ℕ) (cs : List ℕ) → is_closed false cs ≡ is_some (block_end i cs)
unfolding block_end
closed-ends i [] = refl
closed-ends i (c ∷ cs) = closed_star (c == 42) cs ∙ by ((c == 42) && (slice_index cs 0 == 47)) (closed-ends (i + 1) cs)
  where
    by : (b : Bool) → is_closed false cs ≡ is_some (block_end (i + 1) cs) → (b || is_closed false cs) ≡ is_some (cond b (Some (i + 2)) (block_end (i + 1) cs))
    by true h = refl
    by false h = h

-- the index behind the next `*/`, whose `*` may be the one before
abbrev end_behind : Bool → ℕ → List ℕ → Option ℕ
end_behind star i ys = cond (star && (slice_index ys 0 == 47)) (Some (i + 1)) (block_end i ys)

-- what the place says of the comment that goes on up to `until`, `ys` standing from the index i on
abbrev Rel : List ℕ → ℕ → ℕ → List ℕ → Place → Type 0
Rel cs until i ys (Place.Outside begins) = (until ≤ i) × (begins ≡ ((i == 0) || is_one_of comment_breaks (slice_index cs (i - 1))))
Rel cs until i ys Place.Rest = until ≡ line_end i ys
Rel cs until i ys Place.Opened = block_end (i + 1) (drop 1 ys) ≡ Some until
Rel cs until i ys (Place.Block star) = end_behind star i ys ≡ Some until

abbrev is_other : ℕ → Bool
is_other c = cond (c == 10) false true

module _ (cs : List ℕ) (until i c : ℕ) (ys : List ℕ) (stands : drop i cs ≡ c ∷ ys) where
  abbrev next_end : ℕ
  next_end = comment_until cs until i

  -- the step over one element
  record Step (place : Place) : Type 0 where
    mark : (nat_lt i next_end && is_other c) ≡ is_comment place c ys
    next : Rel cs next_end (i + 1) ys (place_behind place c ys)

  within : i < until → next_end ≡ until
  unfolding comment_until
  within h = rw (lt-ltb i until h) refl

  inside-mark : (place : Place) → i < until → is_inside place (place_behind place c ys) ≡ true → (nat_lt i next_end && is_other c) ≡ is_comment place c ys
  inside-mark place h inside = rw (within h, lt-ltb i until h, inside) refl

  at_code : slice_index cs i ≡ c
  at_code = let e : i ≡ i + 0 = omega arith in ap (λ n. get_or cs n 0) e ∙ sym (get_or-drop i cs 0 0) ∙ ap (λ (l : List ℕ). get_or l 0 0) stands

  behind_code : drop (i + 1) cs ≡ ys
  behind_code = sym (drop-drop 1 i cs) ∙ ap (λ (l : List ℕ). drop 1 l) stands

  next_code : slice_index cs (i + 1) ≡ slice_index ys 0
  next_code = let e : i + 1 ≡ i + 1 + 0 = omega arith in ap (λ n. get_or cs n 0) e ∙ sym (get_or-drop (i + 1) cs 0 0) ∙ ap (λ (l : List ℕ). get_or l 0 0) behind_code

  later_code : drop (i + 2) cs ≡ drop 1 ys
  later_code = let e : i + 2 ≡ i + 1 + 1 = omega arith in ap (λ n. drop n cs) e ∙ sym (drop-drop 1 (i + 1) cs) ∙ ap (λ (l : List ℕ). drop 1 l) behind_code

  begins_next : (b : Bool) → is_one_of comment_breaks c ≡ b → b ≡ ((i + 1 == 0) || is_one_of comment_breaks (slice_index cs (i + 1 - 1)))
  begins_next b e =
      let same : i + 1 - 1 ≡ i = omega arith in
      rw (ne_eqb (i + 1) 0 (λ z. absurd (omega (arith, z))), same, at_code) (sym e)

  step-opened : Rel cs until i (c ∷ ys) Place.Opened → Step Place.Opened
  step-opened h =
      let low = block_end-le (i + 1) until ys h in
      let less : i < until = omega arith in
      record { mark = inside-mark Place.Opened less refl; next = rw (within less) h }

  block-ends : Rel cs until i (c ∷ ys) (Place.Block false) → end_behind (c == 42) (i + 1) ys ≡ Some until
  unfolding block_end
  block-ends h = let e : i + 1 + 1 ≡ i + 2 = omega arith in rw e h

  block-next : (star : Bool) → Rel cs until i (c ∷ ys) (Place.Block star) → (star && (c == 47)) ≡ false → Step (Place.Block star)
  block-next star h other =
      let ends : block_end i (c ∷ ys) ≡ Some until = rw other at h in
      let low = block_end-le i until (c ∷ ys) ends in
      let less : i < until = omega arith in
      record { mark = inside-mark (Place.Block star) less refl; next = rw (other, within less) (block-ends ends) }

  block-closed : (star : Bool) → Rel cs until i (c ∷ ys) (Place.Block star) → (star && (c == 47)) ≡ true → c ≡ 47 → Step (Place.Block star)
  block-closed star h closing is =
      let ends : Some (i + 1) ≡ Some until = rw closing at h in
      let same : i + 1 ≡ until = cc in
      let less : i < until = omega arith in
      record { mark = inside-mark (Place.Block star) less refl; next = rw (closing, within less) (omega arith, begins_next false (ap (is_one_of comment_breaks) is)) }

  step-block : (star : Bool) → Rel cs until i (c ∷ ys) (Place.Block star) → Step (Place.Block star)
  step-block false h = block-next false h refl
  step-block true h = by (c == 47) refl
    where
      by : (b : Bool) → (c == 47) ≡ b → Step (Place.Block true)
      by true e = block-closed true h e (eqb-true c 47 e)
      by false e = block-next true h e

  -- where no comment begins
  plain_end : until ≤ i → comment_end cs i ≡ None → next_end ≡ until
  unfolding comment_until
  plain_end low none = rw (le-ltb i until low, none) refl

  no_comment : (c == 35) ≡ false → (c == 47) ≡ false → comment_end cs i ≡ None
  unfolding comment_end
  no_comment hash slash = rw (at_code, hash, slash) refl

  rest-newline : until ≡ i → c ≡ 10 → Step Place.Rest
  rest-newline same is =
      let low : until ≤ i = omega arith in
      let none = no_comment (ne_eqb c 35 (λ e. absurd (omega (arith, e)))) (ne_eqb c 47 (λ e. absurd (omega (arith, e)))) in
      let newline = eq-eqb c 10 is in
      record {
        mark = rw (plain_end low none, le-ltb i until low, newline) refl;
        next = rw (newline, plain_end low none) (omega arith, begins_next true (ap (is_one_of comment_breaks) is));
      }

  rest-other : until ≡ line_end (i + 1) ys → (c == 10) ≡ false → Step Place.Rest
  rest-other same other =
      let low = line_end-le (i + 1) ys in
      let less : i < until = omega arith in
      record { mark = inside-mark Place.Rest less refl; next = rw (other, within less) same }

  step-rest : Rel cs until i (c ∷ ys) Place.Rest → Step Place.Rest
  unfolding line_end
  step-rest h = by (c == 10) refl h
    where
      by : (b : Bool) → (c == 10) ≡ b → until ≡ cond b i (line_end (i + 1) ys) → Step Place.Rest
      by true e h = rest-newline h (eqb-true c 10 e)
      by false e h = rest-other h e

  module _ (begins : Bool) (low : until ≤ i) (is : begins ≡ ((i == 0) || is_one_of comment_breaks (slice_index cs (i - 1)))) where
    hash_end : (c == 35) ≡ true → next_end ≡ line_end (i + 1) ys
    unfolding comment_until comment_end
    hash_end e = rw (le-ltb i until low, at_code, e, behind_code) refl

    outside-hash : (c == 35) ≡ true → Step (Place.Outside begins)
    outside-hash e =
        let end = hash_end e in
        let more = line_end-le (i + 1) ys in
        let less : i < line_end (i + 1) ys = omega arith in
        record { mark = rw (end, lt-ltb i (line_end (i + 1) ys) less, e) refl; next = rw e end }

    -- what a `/*` here would be
    abbrev ends : Option ℕ
    ends = block_end (i + 2) (drop 1 ys)

    opens-is : opens_block ys ≡ ((slice_index ys 0 == 42) && is_some ends)
    opens-is = opens ys
      where
        opens : (zs : List ℕ) → opens_block zs ≡ ((slice_index zs 0 == 42) && is_some (block_end (i + 2) (drop 1 zs)))
        opens [] = refl
        opens (z ∷ zs) = rw (closed-ends (i + 2) zs) refl

    not_hash : (c == 35) ≡ false → comment_end cs i ≡ cond (((c == 47) && (slice_index ys 0 == 42)) && begins) ends None
    unfolding comment_end
    not_hash e = rw (at_code, e, next_code, later_code, ← is) refl

    outside-plain : (c == 35) ≡ false → comment_end cs i ≡ None → (begins && ((c == 47) && opens_block ys)) ≡ false → Step (Place.Outside begins)
    outside-plain e none closed = record {
      mark = rw (plain_end low none, le-ltb i until low, e, closed) (never (c == 10));
      next = rw (e, closed, plain_end low none) (omega arith, begins_next (is_one_of comment_breaks c) refl);
    }
      where
        never : (b : Bool) → false ≡ cond b false false
        never true = refl
        never false = refl

    block_start : (e : ℕ) → comment_end cs i ≡ Some e → next_end ≡ e
    unfolding comment_until
    block_start e h = rw (le-ltb i until low, h) refl

    outside-block : (e : ℕ) → (c == 35) ≡ false → comment_end cs i ≡ Some e → ends ≡ Some e → (begins && ((c == 47) && opens_block ys)) ≡ true → Step (Place.Outside begins)
    outside-block e other some h opened =
        let more = block_end-le (i + 2) e (drop 1 ys) h in
        let less : i < e = omega arith in
        let two : i + 1 + 1 ≡ i + 2 = omega arith in
        record { mark = rw (block_start e some, lt-ltb i e less, other, opened) refl; next = rw (other, opened, block_start e some, two) h }

    by_tests : (p q : Bool) (r : Option ℕ) → (c == 35) ≡ false → (c == 47) ≡ p → (slice_index ys 0 == 42) ≡ q → ends ≡ r
        → comment_end cs i ≡ cond ((p && q) && begins) r None → opens_block ys ≡ (q && is_some r) → (b : Bool) → begins ≡ b → Step (Place.Outside begins)
    by_tests true true (Some e) other ep eq er end opens true eb = outside-block e other (end ∙ rw eb refl) er (rw (eb, ep, opens) refl)
    by_tests true true (Some e) other ep eq er end opens false eb = outside-plain other (end ∙ rw eb refl) (rw eb refl)
    by_tests true true None other ep eq er end opens true eb = outside-plain other (end ∙ rw eb refl) (rw (eb, ep, opens) refl)
    by_tests true true None other ep eq er end opens false eb = outside-plain other (end ∙ rw eb refl) (rw eb refl)
    by_tests true false r other ep eq er end opens true eb = outside-plain other end (rw (eb, ep, opens) refl)
    by_tests true false r other ep eq er end opens false eb = outside-plain other end (rw eb refl)
    by_tests false q r other ep eq er end opens true eb = outside-plain other end (rw (eb, ep) refl)
    by_tests false q r other ep eq er end opens false eb = outside-plain other end (rw eb refl)

    step-outside : Step (Place.Outside begins)
    step-outside = by (c == 35) refl
      where
        by : (b : Bool) → (c == 35) ≡ b → Step (Place.Outside begins)
        by true e = outside-hash e
        by false e = by_tests (c == 47) (slice_index ys 0 == 42) ends e refl refl refl (not_hash e) opens-is begins refl

  step : (place : Place) → Rel cs until i (c ∷ ys) place → Step place
  step (Place.Outside begins) h = step-outside begins h.0 h.1
  step Place.Rest h = step-rest h
  step Place.Opened h = step-opened h
  step (Place.Block star) h = step-block star h

module _ {X : Type 0} (code : X → ℕ) (cs : List ℕ) where
  kept-alike : (until i : ℕ) (place : Place) (xs : List X) → drop i cs ≡ map code xs → Rel cs until i (map code xs) place → kept code xs (comments_from cs until i (map code xs)) ≡ outside_comments code place xs
  unfolding kept comments_from outside_comments
  kept-alike until i place [] stands h = refl
  kept-alike until i place (x ∷ xs) stands h =
      let s = step cs until i (code x) (map code xs) stands place h in
      rw (s.mark, kept-alike (comment_until cs until i) (i + 1) (place_behind place (code x) (map code xs)) xs (behind_code cs until i (code x) (map code xs) stands) s.next) refl

-- both ways leave the same
pub uncommented-alike : {X : Type 0} (code : X → ℕ) (xs : List X) → uncommented code xs ≡ outside_comments code (Place.Outside true) xs
uncommented-alike code xs = kept-alike code (map code xs) 0 0 (Place.Outside true) xs refl (omega arith, refl)

module _ (i : Interface) (p : Placement) (unique : ℕ) (cs : List ℕ) where
  -- whether a piece stands in a comment tells only an operand's text
  same_piece : (x : Piece) (mark inside : Bool) → (mark && is_other (piece_code x)) ≡ inside → piece_text i p unique mark x ≡ piece_text i p unique inside x
  same_piece (Piece.Byte b at) mark inside e = refl
  same_piece (Piece.Unique at) mark inside e = refl
  same_piece (Piece.Hole k m at) mark inside e = ap (λ b. piece_text i p unique b (Piece.Hole k m at)) (sym (and-true mark) ∙ e)

  expansion-alike : (until n : ℕ) (place : Place) (ps : List Piece) → drop n cs ≡ map piece_code ps → Rel cs until n (map piece_code ps) place
      → expansion_with i p unique ps (comments_from cs until n (map piece_code ps)) ≡ expansion_from i p unique place ps
  unfolding comments_from expansion_with expansion_from
  expansion-alike until n place [] stands h = refl
  expansion-alike until n place (x ∷ ps) stands h =
      let s = step cs until n (piece_code x) (map piece_code ps) stands place h in
      rw (
        same_piece x (nat_lt n (comment_until cs until n)) (is_comment place (piece_code x) (map piece_code ps)) s.mark,
        expansion-alike (comment_until cs until n) (n + 1) (place_behind place (piece_code x) (map piece_code ps)) ps (behind_code cs until n (piece_code x) (map piece_code ps) stands) s.next,
      ) refl

-- both ways give one text
pub expansion_of-alike : (i : Interface) (p : Placement) (unique : ℕ) (ps : List Piece) → expansion_of i p unique ps ≡ expansion_from i p unique (Place.Outside true) ps
expansion_of-alike i p unique ps = expansion-alike i p unique (map piece_code ps) 0 0 (Place.Outside true) ps refl (omega arith, refl)
