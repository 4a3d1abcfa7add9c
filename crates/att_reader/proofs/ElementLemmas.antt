-- One step of what is left without comments.
use Rattle.std.proofs.Common.{◌≡◌, ℕ, suc, ◌+◌, ◌<◌, ◌≤◌, ◌==◌, ◌&&◌, not, Bool, true, false, cond, List, [], ◌∷◌, ◌++◌, length, map, drop, get_or, refl, sym, ap, ◌∙◌, arith, append_assoc}
use Rattle.std.proofs.lemmas.List.{append-nil, drop_more, drop_all, length-map}
use Rattle.asm_core.specs.Comments.{kept, comments_of}
use Rattle.asm_core.specs.Pieces.{piece_code}
use Rattle.asm_core.specs.declared.piece.Piece.{Piece}
use Rattle.asm_template.proofs.CommentLemmas.{comments-length}

one : (b : Bool) (c : ℕ) (dropped left : List Piece) → cond (b && cond (c == 10) false true) dropped left ≡ cond (b && not (c == 10)) dropped left
one b c dropped left = ap (λ n. cond (b && n) dropped left) (by (c == 10))
  where
    by : (n : Bool) → cond n false true ≡ not n
    by true = refl
    by false = refl

kept_step : (ps : List Piece) (ms : List Bool) (i : ℕ) (p : Piece) (d : Bool) → length ms ≡ length ps → i < length ps
    → kept piece_code (drop i ps) (drop i ms) ≡ cond (get_or ms i d && not (piece_code (get_or ps i p) == 10)) (kept piece_code (drop (i + 1) ps) (drop (i + 1) ms)) (get_or ps i p ∷ kept piece_code (drop (i + 1) ps) (drop (i + 1) ms))
unfolding kept
kept_step ps ms i p d same lt =
    let lt_marks : i < length ms = omega arith in
    rw (drop_more ps i p lt, drop_more ms i d lt_marks) (one (get_or ms i d) (piece_code (get_or ps i p)) (kept piece_code (drop (i + 1) ps) (drop (i + 1) ms)) (get_or ps i p ∷ kept piece_code (drop (i + 1) ps) (drop (i + 1) ms)))

pub kept_dropped : (ps : List Piece) (ms : List Bool) (i : ℕ) (p : Piece) (d : Bool) → length ms ≡ length ps → i < length ps → (get_or ms i d && not (piece_code (get_or ps i p) == 10)) ≡ true
    → kept piece_code (drop i ps) (drop i ms) ≡ kept piece_code (drop (i + 1) ps) (drop (i + 1) ms)
kept_dropped ps ms i p d same lt e = kept_step ps ms i p d same lt ∙ rw e refl

pub kept_left : (ps : List Piece) (ms : List Bool) (i : ℕ) (p : Piece) (d : Bool) → length ms ≡ length ps → i < length ps → (get_or ms i d && not (piece_code (get_or ps i p) == 10)) ≡ false
    → kept piece_code (drop i ps) (drop i ms) ≡ get_or ps i p ∷ kept piece_code (drop (i + 1) ps) (drop (i + 1) ms)
kept_left ps ms i p d same lt e = kept_step ps ms i p d same lt ∙ rw e refl

pub kept_over : (ps : List Piece) (ms : List Bool) (i : ℕ) → length ps ≤ i → kept piece_code (drop i ps) (drop i ms) ≡ []
unfolding kept
kept_over ps ms i le = rw (drop_all i ps le) refl

pub ruleset kept_steps = (kept_over, append-nil, append_assoc)

pub marks_length : (ps : List Piece) → length (comments_of (map piece_code ps)) ≡ length ps
marks_length ps = comments-length (map piece_code ps) 0 0 (map piece_code ps) ∙ length-map ps piece_code
