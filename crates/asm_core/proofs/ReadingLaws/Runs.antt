-- The runs of a text are its template's pieces, where these stand apart; and a text that exists names each of them.
use Rattle.std.proofs.Common.{◌≡◌, ℕ, suc, ◌&&◌, nat_lt, not, List, [], ◌∷◌, ◌++◌, map, Bool, true, false, cond, Option, None, Some, Result, Ok, Err, decimal, refl, ◌∙◌, eq-eqb}
use Rattle.asm_core.specs.Pieces.{piece_code}
use Rattle.asm_core.proofs.ReadingLaws.CommentPlaces.{expansion_from, Place, place_behind, is_comment, outside_comments}
use Rattle.asm_core.specs.Reading.Text.{Run, onto_runs, runs_of}
use Rattle.asm_core.specs.declared.reading.Sign.{Sign}
use Rattle.asm_core.specs.Reading.Placed.{is_apart}
use Rattle.asm_core.specs.Expansion.{operand_text, with_origin, hole_text, piece_text, onto_text}
use Rattle.asm_core.proofs.ReadingLaws.CommentsLeft.{IsSome_text, text_or, piece_signs, signs_of, GiveText}
use Rattle.asm_core.specs.declared.piece.Modifier.{Modifier}
use Rattle.asm_core.specs.declared.piece.Piece.{Piece}
use Rattle.asm_core.specs.declared.placement.Placement.{Placement}
use Rattle.asm_core.specs.declared.interface.Interface.{Interface}

-- no run of another origin begins there
abbrev byte_next : List Run → Bool
byte_next [] = true
byte_next (Run.Byte b ∷ runs) = true
byte_next (Run.Given o text ∷ runs) = false

onto_first_run : (b o : ℕ) (runs : List Run) → byte_next runs ≡ true → onto_runs b o runs ≡ Run.Given o (b ∷ []) ∷ runs
onto_first_run b o [] next = refl
onto_first_run b o (Run.Byte c ∷ runs) next = refl
onto_first_run b o (Run.Given p text ∷ runs) next = cc

onto_same_run : (b o : ℕ) (text : List ℕ) (runs : List Run) → onto_runs b o (Run.Given o text ∷ runs) ≡ Run.Given o (b ∷ text) ∷ runs
onto_same_run b o text runs = rw (eq-eqb o o refl) refl

given_runs : (o b : ℕ) (bs : List ℕ) (rest : List Sign) → byte_next (runs_of rest) ≡ true → runs_of (with_origin (suc o) (b ∷ bs) ++ rest) ≡ Run.Given (suc o) (b ∷ bs) ∷ runs_of rest
unfolding runs_of
given_runs o b [] rest next = onto_first_run b (suc o) (runs_of rest) next
given_runs o b (c ∷ bs) rest next = rw (given_runs o c bs rest next) (onto_same_run b (suc o) (c ∷ bs) (runs_of rest))

given_text_runs : (o : ℕ) (text : List ℕ) (some : IsSome_text text) (rest : List Sign) → byte_next (runs_of rest) ≡ true → runs_of (with_origin (suc o) text ++ rest) ≡ Run.Given (suc o) text ∷ runs_of rest
given_text_runs o text some rest next = rw some.whole (given_runs o some.first some.rest rest next)

both_true : (a b : Bool) → (a && b) ≡ true → b ≡ true
both_true true b h = h
both_true false b h = cc

first_true : (a b : Bool) → (a && b) ≡ true → a ≡ true
first_true true b h = refl
first_true false b h = cc

module _ (i : Interface) (p : Placement) (unique : ℕ) where
  -- a piece as a run of the text
  abbrev pub run_of : Piece → Run
  run_of (Piece.Byte b at) = Run.Byte b
  run_of (Piece.Unique at) = Run.Given 255 (decimal unique)
  run_of (Piece.Hole k m at) = Run.Given (suc k) (text_or (operand_text i p k m))

  next-apart : (c : ℕ) (ps : List Piece) → nat_lt c 2 ≡ true → is_apart (c ∷ map piece_code ps) ≡ true → byte_next (map run_of ps) ≡ true
  next-apart c [] low apart = refl
  next-apart c (Piece.Byte b at ∷ ps) low apart = refl
  next-apart c (Piece.Unique at ∷ ps) low apart = let h : (not (nat_lt c 2 && true) && is_apart (1 ∷ map piece_code ps)) ≡ true = apart in cc (rw low at h)
  next-apart c (Piece.Hole k m at ∷ ps) low apart = let h : (not (nat_lt c 2 && true) && is_apart (0 ∷ map piece_code ps)) ≡ true = apart in cc (rw low at h)

  rest-apart : (x : Piece) (ps : List Piece) → is_apart (map piece_code (x ∷ ps)) ≡ true → is_apart (map piece_code ps) ≡ true
  rest-apart x ps apart = both_true _ _ apart

  pub runs-signs : GiveText i p unique → (ps : List Piece) → is_apart (map piece_code ps) ≡ true → runs_of (signs_of i p unique ps) ≡ map run_of ps
  unfolding runs_of
  runs-signs give [] apart = refl
  runs-signs give (Piece.Byte b at ∷ ps) apart = rw (runs-signs give ps (rest-apart (Piece.Byte b at) ps apart)) refl
  runs-signs give (Piece.Unique at ∷ ps) apart =
      let same = runs-signs give ps (rest-apart (Piece.Unique at) ps apart) in
      let next : byte_next (runs_of (signs_of i p unique ps)) ≡ true = rw same (next-apart 1 ps refl apart) in
      given_text_runs 254 (decimal unique) give.number (signs_of i p unique ps) next ∙ rw same refl
  runs-signs give (Piece.Hole k m at ∷ ps) apart =
      let same = runs-signs give ps (rest-apart (Piece.Hole k m at) ps apart) in
      let next : byte_next (runs_of (signs_of i p unique ps)) ≡ true = rw same (next-apart 0 ps refl apart) in
      given_text_runs k (text_or (operand_text i p k m)) (give.each k m) (signs_of i p unique ps) next ∙ rw same refl

  -- the operand has that name
  abbrev pub IsNamed : Piece → Type 0
  IsNamed (Piece.Byte b at) = Unit {0}
  IsNamed (Piece.Unique at) = Unit {0}
  IsNamed (Piece.Hole k m at) = (text : List ℕ) × (operand_text i p k m ≡ Some text)

  abbrev pub AreNamed : List Piece → Type 0
  AreNamed [] = Unit {0}
  AreNamed (x ∷ xs) = IsNamed x × AreNamed xs

  -- a result, where there is one, is that
  abbrev pub IsThat : Result (List Sign) ℕ → List Sign → Type 0
  IsThat (Ok xs) ys = xs ≡ ys
  IsThat (Err k) ys = Unit {0}

  -- a fact, where there is a result
  abbrev pub Where : Result (List Sign) ℕ → Type 0 → Type 0
  Where (Ok xs) P = P
  Where (Err k) P = Unit {0}

  hole-that : (inside : Bool) (k : ℕ) (m : Modifier) (at : ℕ) (text : Option (List ℕ)) → operand_text i p k m ≡ text
      → IsThat (elim (hole_text inside text) as (λ _. Result (List Sign) ℕ) [ None ↦ Err k | Some t ↦ Ok (with_origin (suc k) t) ]) (with_origin (suc k) (text_or text))
  hole-that true k m at None e = refl
  hole-that false k m at None e = tt
  hole-that inside k m at (Some t) e = refl

  pub piece-that : (inside : Bool) (x : Piece) → IsThat (piece_text i p unique inside x) (piece_signs i p unique x)
  piece-that inside (Piece.Byte b at) = refl
  piece-that inside (Piece.Unique at) = refl
  piece-that inside (Piece.Hole k m at) = hole-that inside k m at (operand_text i p k m) refl

  pub onto-that : (a b : Result (List Sign) ℕ) (xs ys : List Sign) → IsThat a xs → IsThat b ys → IsThat (onto_text a b) (xs ++ ys)
  onto-that (Err k) b xs ys ha hb = tt
  onto-that (Ok as') (Err k) xs ys ha hb = tt
  onto-that (Ok us) (Ok vs) xs ys ha hb = rw (ha, hb) refl

  expansion-that : (place : Place) (ps : List Piece) → IsThat (expansion_from i p unique place ps) (signs_of i p unique ps)
  unfolding expansion_from
  expansion-that place [] = refl
  expansion-that place (x ∷ ps) =
      onto-that (piece_text i p unique (is_comment place (piece_code x) (map piece_code ps)) x) (expansion_from i p unique (place_behind place (piece_code x) (map piece_code ps)) ps) _ _
      (piece-that (is_comment place (piece_code x) (map piece_code ps)) x) (expansion-that (place_behind place (piece_code x) (map piece_code ps)) ps)

  pub that_is : (r : Result (List Sign) ℕ) (text ys : List Sign) → IsThat r ys → r ≡ Ok text → text ≡ ys
  that_is (Ok xs) text ys h e = cc
  that_is (Err k) text ys h e = cc

  -- a text that exists is that of each piece in turn
  pub expansion-signs : (place : Place) (ps : List Piece) (text : List Sign) → expansion_from i p unique place ps ≡ Ok text → text ≡ signs_of i p unique ps
  expansion-signs place ps text e = that_is (expansion_from i p unique place ps) text (signs_of i p unique ps) (expansion-that place ps) e

  hole-named : (k : ℕ) (m : Modifier) (text : Option (List ℕ)) → operand_text i p k m ≡ text
      → Where (elim (hole_text false text) as (λ _. Result (List Sign) ℕ) [ None ↦ Err k | Some t ↦ Ok (with_origin (suc k) t) ]) ((t : List ℕ) × (operand_text i p k m ≡ Some t))
  hole-named k m None e = tt
  hole-named k m (Some t) e = (t, e)

  pub piece-named : (x : Piece) → Where (piece_text i p unique false x) (IsNamed x)
  piece-named (Piece.Byte b at) = tt
  piece-named (Piece.Unique at) = tt
  piece-named (Piece.Hole k m at) = hole-named k m (operand_text i p k m) refl

  pub onto-named : (a b : Result (List Sign) ℕ) (P Q : Type 0) → Where a P → Where b Q → Where (onto_text a b) (P × Q)
  onto-named (Err k) b P Q ha hb = tt
  onto-named (Ok us) (Err k) P Q ha hb = tt
  onto-named (Ok us) (Ok vs) P Q ha hb = (ha, hb)

  onto-rest : (a b : Result (List Sign) ℕ) (Q : Type 0) → Where b Q → Where (onto_text a b) Q
  onto-rest (Err k) b Q hb = tt
  onto-rest (Ok us) (Err k) Q hb = tt
  onto-rest (Ok us) (Ok vs) Q hb = hb

  named-if : (inside : Bool) (x : Piece) (xs : List Piece) (rest : Result (List Sign) ℕ) → Where rest (AreNamed xs) → Where (onto_text (piece_text i p unique inside x) rest) (AreNamed (cond inside xs (x ∷ xs)))
  named-if true x xs rest h = onto-rest (piece_text i p unique true x) rest (AreNamed xs) h
  named-if false x xs rest h = onto-named (piece_text i p unique false x) rest (IsNamed x) (AreNamed xs) (piece-named x) h

  named-where : (place : Place) (ps : List Piece) → Where (expansion_from i p unique place ps) (AreNamed (outside_comments piece_code place ps))
  unfolding expansion_from outside_comments
  named-where place [] = tt
  named-where place (x ∷ ps) =
      let behind = place_behind place (piece_code x) (map piece_code ps) in
      named-if (is_comment place (piece_code x) (map piece_code ps)) x (outside_comments piece_code behind ps) (expansion_from i p unique behind ps) (named-where behind ps)

  pub where_ok : (r : Result (List Sign) ℕ) (text : List Sign) (P : Type 0) → Where r P → r ≡ Ok text → P
  where_ok (Ok xs) text P h e = h
  where_ok (Err k) text P h e = cc

  -- a text that exists names each operand outside comments
  pub expansion-named : (place : Place) (ps : List Piece) (text : List Sign) → expansion_from i p unique place ps ≡ Ok text → AreNamed (outside_comments piece_code place ps)
  expansion-named place ps text e = where_ok (expansion_from i p unique place ps) text (AreNamed (outside_comments piece_code place ps)) (named-where place ps) e
