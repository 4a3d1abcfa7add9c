-- The pieces of a template stand apart outside comments.
use Rattle.std.proofs.Common.{◌≡◌, ℕ, ◌&&◌, nat_lt, not, max, length, List, [], ◌∷◌, ◌++◌, map, Bool, true, false, IsTrue, refl, arith}
use Rattle.std.proofs.Math.Dec.{eqb-suc-zero}
use Rattle.std.proofs.lemmas.Bool.{le-ltb}
use Rattle.asm_core.specs.Comments.{uncommented}
use Rattle.asm_core.specs.Pieces.{piece_code, may_follow, ends_name, StandApart, ArePieces}
use Rattle.asm_core.specs.Reading.Placed.{is_apart}
use Rattle.asm_core.specs.declared.piece.Modifier.{Modifier}
use Rattle.asm_core.specs.declared.piece.Piece.{Piece}

-- nothing, or a byte, stands first
abbrev byte_first : List Piece → Bool
byte_first [] = true
byte_first (Piece.Byte b at ∷ ps) = true
byte_first (Piece.Hole k m at ∷ ps) = false
byte_first (Piece.Unique at ∷ ps) = false

behind_hole : (m : Modifier) (ps : List Piece) → IsTrue (may_follow m (map piece_code ps)) → byte_first ps ≡ true
behind_hole m [] h = refl
behind_hole m (Piece.Byte b at ∷ ps) h = refl
behind_hole Modifier.Plain (Piece.Hole k n at ∷ ps) h = let no : false ≡ true = rw (eqb-suc-zero (length (map piece_code ps))) at h in cc
behind_hole Modifier.Plain (Piece.Unique at ∷ ps) h = let no : false ≡ true = rw (eqb-suc-zero (length (map piece_code ps))) at h in cc
behind_hole Modifier.B (Piece.Hole k n at ∷ ps) h = let no : false ≡ true = rw (eqb-suc-zero (length (map piece_code ps))) at h in cc
behind_hole Modifier.B (Piece.Unique at ∷ ps) h = let no : false ≡ true = rw (eqb-suc-zero (length (map piece_code ps))) at h in cc
behind_hole Modifier.W (Piece.Hole k n at ∷ ps) h = let no : false ≡ true = rw (eqb-suc-zero (length (map piece_code ps))) at h in cc
behind_hole Modifier.W (Piece.Unique at ∷ ps) h = let no : false ≡ true = rw (eqb-suc-zero (length (map piece_code ps))) at h in cc
behind_hole Modifier.K (Piece.Hole k n at ∷ ps) h = let no : false ≡ true = rw (eqb-suc-zero (length (map piece_code ps))) at h in cc
behind_hole Modifier.K (Piece.Unique at ∷ ps) h = let no : false ≡ true = rw (eqb-suc-zero (length (map piece_code ps))) at h in cc
behind_hole Modifier.H (Piece.Hole k n at ∷ ps) h = let no : false ≡ true = rw (eqb-suc-zero (length (map piece_code ps))) at h in cc
behind_hole Modifier.H (Piece.Unique at ∷ ps) h = let no : false ≡ true = rw (eqb-suc-zero (length (map piece_code ps))) at h in cc
behind_hole Modifier.C (Piece.Hole k n at ∷ ps) h = let no : false ≡ true = rw (eqb-suc-zero (length (map piece_code ps))) at h in cc
behind_hole Modifier.C (Piece.Unique at ∷ ps) h = let no : false ≡ true = rw (eqb-suc-zero (length (map piece_code ps))) at h in cc

behind_unique : (ps : List Piece) → IsTrue (ends_name (map piece_code ps)) → byte_first ps ≡ true
behind_unique [] h = refl
behind_unique (Piece.Byte b at ∷ ps) h = refl
behind_unique (Piece.Hole k m at ∷ ps) h = let no : false ≡ true = rw (eqb-suc-zero (length (map piece_code ps))) at h in cc
behind_unique (Piece.Unique at ∷ ps) h = let no : false ≡ true = rw (eqb-suc-zero (length (map piece_code ps))) at h in cc

byte_high : (b : ℕ) → nat_lt (max b 2) 2 ≡ false
byte_high b = le-ltb (max b 2) 2 (omega arith)

not_both : (b : Bool) → not (b && false) ≡ true
not_both true = refl
not_both false = refl

and_of : (x y : Bool) → x ≡ true → y ≡ true → (x && y) ≡ true
and_of x y hx hy = rw (hx, hy) refl

apart_first : (c : ℕ) (ps : List Piece) → byte_first ps ≡ true → is_apart (map piece_code ps) ≡ true → is_apart (c ∷ map piece_code ps) ≡ true
apart_first c [] first rest = and_of (not (nat_lt c 2 && false)) true (not_both (nat_lt c 2)) refl
apart_first c (Piece.Byte b at ∷ ps) first rest = and_of (not (nat_lt c 2 && nat_lt (max b 2) 2)) (is_apart (max b 2 ∷ map piece_code ps)) (rw (byte_high b) (not_both (nat_lt c 2))) rest
apart_first c (Piece.Hole k m at ∷ ps) first rest = cc
apart_first c (Piece.Unique at ∷ ps) first rest = cc

apart_byte : (b : ℕ) (cs : List ℕ) → is_apart cs ≡ true → is_apart (max b 2 ∷ cs) ≡ true
apart_byte b cs rest = rw (byte_high b, rest) refl

stand_apart : (before : List ℕ) (ps : List Piece) → StandApart before ps → is_apart (map piece_code ps) ≡ true
unfolding StandApart
stand_apart before [] h = refl
stand_apart before (Piece.Byte b at ∷ ps) h = apart_byte b (map piece_code ps) (stand_apart (before ++ max b 2 ∷ []) ps h.1)
stand_apart before (Piece.Hole k m at ∷ ps) h = apart_first 0 ps (behind_hole m ps h.0.1) (stand_apart (before ++ 0 ∷ []) ps h.1)
stand_apart before (Piece.Unique at ∷ ps) h = apart_first 1 ps (behind_unique ps h.0) (stand_apart (before ++ 1 ∷ []) ps h.1)

pub are_apart : (count : ℕ) (ps : List Piece) → ArePieces count ps → is_apart (map piece_code (uncommented piece_code ps)) ≡ true
are_apart count ps h = stand_apart [] (uncommented piece_code ps) h.apart
