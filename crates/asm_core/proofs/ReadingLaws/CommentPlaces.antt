-- Comments passed over from one element to the next.
use Rattle.std.specs.Prelude.{Result, Ok, ℕ, ◌==◌, ◌||◌, ◌&&◌, Bool, true, false, List, [], ◌∷◌, map, if◌then◌else◌}
use Rattle.asm_core.specs.Pieces.{piece_code}
use Rattle.asm_core.specs.declared.reading.Sign.{Sign}
use Rattle.asm_core.specs.Expansion.{piece_text, onto_text}
use Rattle.asm_core.specs.declared.piece.Piece.{Piece}
use Rattle.asm_core.specs.declared.placement.Placement.{Placement}
use Rattle.asm_core.specs.declared.interface.Interface.{Interface}
use Rattle.asm_core.specs.Comments.{is_one_of, comment_breaks}

-- where the next element stands
pub data Place : Type 0 where
  -- outside comments; whether `/*` may begin one there
  Outside : (begins : Bool) → Place
  -- in a comment that ends before the newline
  Rest : Place
  -- behind the `/` of a `/*`
  Opened : Place
  -- in a comment that ends behind `*/`; whether a `*` of it stands before
  Block : (star : Bool) → Place

-- some `*/` stands there; its `*` may be the one before
abbrev pub is_closed : Bool → List ℕ → Bool
is_closed star [] = false
is_closed star (c ∷ cs) = (star && (c == 47)) || is_closed (c == 42) cs

-- behind a `/`: a `*`, and later `*/`
abbrev pub opens_block : List ℕ → Bool
opens_block [] = false
opens_block (c ∷ cs) = (c == 42) && is_closed false cs

-- where the element behind one of code c stands, given the codes behind c
abbrev pub place_behind : Place → ℕ → List ℕ → Place
place_behind (Outside begins) c cs = if c == 35 then Rest else if begins && ((c == 47) && opens_block cs) then Opened else Outside (is_one_of comment_breaks c)
place_behind Rest c cs = if c == 10 then Outside true else Rest
place_behind Opened c cs = Block false
place_behind (Block star) c cs = if star && (c == 47) then Outside false else Block (c == 42)

-- whether the element of code c stands in a comment, given the place behind it
abbrev pub is_inside : Place → Place → Bool
is_inside (Outside begins) (Outside b) = false
is_inside before after = true

-- whether an element of code c stands in a comment; a newline parts lines in comments too
abbrev pub is_comment : Place → ℕ → List ℕ → Bool
is_comment place c cs = if c == 10 then false else is_inside place (place_behind place c cs)

-- what stands outside comments
unfoldable pub outside_comments : {X : Type 0} → (X → ℕ) → Place → List X → List X
outside_comments code place [] = []
outside_comments code place (x ∷ xs) =
    let rest = outside_comments code (place_behind place (code x) (map code xs)) xs in
    if is_comment place (code x) (map code xs) then rest else x ∷ rest

-- the text of pieces, given where in or outside comments they begin
unfoldable pub expansion_from : Interface → Placement → ℕ → Place → List Piece → Result (List Sign) ℕ
expansion_from i p unique place [] = Ok []
expansion_from i p unique place (x ∷ xs) =
    let cs = map piece_code xs in
    onto_text (piece_text i p unique (is_comment place (piece_code x) cs) x) (expansion_from i p unique (place_behind place (piece_code x) cs) xs)
