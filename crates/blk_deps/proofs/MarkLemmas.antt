-- Cells that are marked one place after the other.
use Rattle.std.proofs.Common.{◌≡◌, ◌≢◌, ◌⊎◌, inl, inr, ℕ, ◌+◌, ◌*◌, ◌==◌, ◌&&◌, ◌||◌, nat_lt, not, Bool, true, false, if◌then◌else◌, refl, sym, ap, ◌∙◌, arith}
use Rattle.std.proofs.lemmas.Bool.{cases_eq, cases_lt, lt-ltb, le-ltb, eq-eqb, ne_eqb}
use Rattle.std.proofs.Math.Bool.{and-false}
use Rattle.blk_deps.specs.Cells.{place_of, byte_of}
use Rattle.blk_deps.specs.Facts.{Facts}
use Rattle.blk_deps.specs.Ground.{has_bit}
use Rattle.blk_deps.specs.Changes.{is_changed, with_overwriter, is_marked, with_marks}
use Rattle.blk_deps.specs.declared.fact.Fact.{Fact}
use Rattle.blk_deps.specs.declared.fact.Fact.TheVariants.{Here, Has, Overwrites, Unwritten, DirectionSet}

same_limit : (x i : ℕ) → x ≢ i → nat_lt x (i + 1) ≡ nat_lt x i
same_limit x i differ = elim (cases_lt x i) [
  | inl lt ↦ lt-ltb x (i + 1) (omega (arith, lt)) ∙ sym (lt-ltb x i lt)
  | inr ge ↦ le-ltb x (i + 1) (omega (arith, ge, differ)) ∙ sym (le-ltb x i ge)
]

module _ (sharers u : ℕ) (new : Bool) (s : Facts) where
  abbrev mark_of : ℕ → Bool
  mark_of c = has_bit sharers (place_of c) && (new || is_changed s c)

  -- the test is another
  retold : (i j d c : ℕ) → is_marked u i d c ≡ is_marked u j d c
      → with_marks i sharers u new s (Overwrites d c) ≡ with_marks j sharers u new s (Overwrites d c)
  retold i j d c e = ap (λ t. if t then mark_of c else s (Overwrites d c)) e

  not_at_once : (i d c : ℕ) → place_of c ≢ i → is_marked u (i + 1) d c ≡ is_marked u i d c
  not_at_once i d c differ =
      ap (λ t. (d == place_of u && byte_of c == byte_of u) && (t && not (place_of c == place_of u))) (same_limit (place_of c) i differ)

  not_its_own : (i d c : ℕ) → place_of c ≡ place_of u → is_marked u i d c ≡ false
  not_its_own i d c same =
      ap (λ t. (d == place_of u && byte_of c == byte_of u) && (nat_lt (place_of c) i && not t)) (eq-eqb (place_of c) (place_of u) same)
      ∙ ap (λ t. (d == place_of u && byte_of c == byte_of u) && t) (and-false (nat_lt (place_of c) i))
      ∙ and-false (d == place_of u && byte_of c == byte_of u)

  not_this_byte : (i d c : ℕ) → (d == place_of u && byte_of c == byte_of u) ≡ false → is_marked u i d c ≡ false
  not_this_byte i d c e = ap (λ t. t && (nat_lt (place_of c) i && not (place_of c == place_of u))) e

  -- no place is marked before the first
  pub none_marked : (fact : Fact) → s fact ≡ with_marks 0 sharers u new s fact
  none_marked Here = refl
  none_marked DirectionSet = refl
  none_marked (Has c property) = refl
  none_marked (Unwritten k b) = refl
  none_marked (Overwrites d c) = sym (ap (λ t. if t then mark_of c else s (Overwrites d c)) none)
    where
      none : is_marked u 0 d c ≡ false
      none = ap (λ t. (d == place_of u && byte_of c == byte_of u) && (t && not (place_of c == place_of u))) (le-ltb (place_of c) 0 (omega arith))
          ∙ and-false (d == place_of u && byte_of c == byte_of u)

  -- u's own place is passed over
  pub own_passed : (i : ℕ) → i ≡ place_of u → (fact : Fact) → with_marks i sharers u new s fact ≡ with_marks (i + 1) sharers u new s fact
  own_passed i own Here = refl
  own_passed i own DirectionSet = refl
  own_passed i own (Has c property) = refl
  own_passed i own (Unwritten k b) = refl
  own_passed i own (Overwrites d c) = retold i (i + 1) d c (elim (cases_eq (place_of c) i) [
    | inl same ↦ not_its_own i d c (same ∙ own) ∙ sym (not_its_own (i + 1) d c (same ∙ own))
    | inr differ ↦ sym (not_at_once i d c differ)
  ])

  module _ (i : ℕ) (other : i ≢ place_of u) where
    abbrev cell : ℕ
    cell = 4 * i + byte_of u

    at_once : (d c : ℕ) → c ≡ cell → d ≡ place_of u → is_marked u (i + 1) d c ≡ true
    at_once d c same own =
        let place : place_of c ≡ i = omega (arith, same) in
        let byte : byte_of c ≡ byte_of u = omega (arith, same) in
        ap (λ t. (t && byte_of c == byte_of u) && (nat_lt (place_of c) (i + 1) && not (place_of c == place_of u))) (eq-eqb d (place_of u) own)
        ∙ ap (λ t. t && (nat_lt (place_of c) (i + 1) && not (place_of c == place_of u))) (eq-eqb (byte_of c) (byte_of u) byte)
        ∙ ap (λ t. t && not (place_of c == place_of u)) (lt-ltb (place_of c) (i + 1) (omega (arith, place)))
        ∙ ap not (ne_eqb (place_of c) (place_of u) (λ e. other (sym place ∙ e)))

    -- the cell of the i-th place gets its mark, and the others keep theirs
    marked_cell : (d c : ℕ) → (c ≡ cell) ⊎ (c ≢ cell) → (d ≡ place_of u) ⊎ (d ≢ place_of u) → (byte_of c ≡ byte_of u) ⊎ (byte_of c ≢ byte_of u)
        → with_overwriter (place_of u) cell (has_bit sharers i && (new || is_changed s cell)) (with_marks i sharers u new s) (Overwrites d c)
        ≡ with_marks (i + 1) sharers u new s (Overwrites d c)
    marked_cell d c (inl same) (inl own) byte =
        let place : place_of c ≡ i = omega (arith, same) in
        ap (λ t. if t && d == place_of u then has_bit sharers i && (new || is_changed s cell) else with_marks i sharers u new s (Overwrites d c)) (eq-eqb c cell same)
        ∙ ap (λ t. if t then has_bit sharers i && (new || is_changed s cell) else with_marks i sharers u new s (Overwrites d c)) (eq-eqb d (place_of u) own)
        ∙ ap (λ p. has_bit sharers p && (new || is_changed s cell)) (sym place)
        ∙ ap (λ e. has_bit sharers (place_of c) && (new || is_changed s e)) (sym same)
        ∙ sym (ap (λ t. if t then mark_of c else s (Overwrites d c)) (at_once d c same own))
    marked_cell d c (inl same) (inr another) byte =
        ap (λ t. if c == cell && t then has_bit sharers i && (new || is_changed s cell) else with_marks i sharers u new s (Overwrites d c)) (ne_eqb d (place_of u) another)
        ∙ ap (λ t. if t then has_bit sharers i && (new || is_changed s cell) else with_marks i sharers u new s (Overwrites d c)) (and-false (c == cell))
        ∙ retold i (i + 1) d c (not_this_byte i d c (no_place d c another) ∙ sym (not_this_byte (i + 1) d c (no_place d c another)))
      where
        no_place : (d c : ℕ) → d ≢ place_of u → (d == place_of u && byte_of c == byte_of u) ≡ false
        no_place d c differ = ap (λ t. t && byte_of c == byte_of u) (ne_eqb d (place_of u) differ)
    marked_cell d c (inr differ) own (inr byte) =
        ap (λ t. if t && d == place_of u then has_bit sharers i && (new || is_changed s cell) else with_marks i sharers u new s (Overwrites d c)) (ne_eqb c cell differ)
        ∙ retold i (i + 1) d c (not_this_byte i d c none ∙ sym (not_this_byte (i + 1) d c none))
      where
        none : (d == place_of u && byte_of c == byte_of u) ≡ false
        none = ap (λ t. d == place_of u && t) (ne_eqb (byte_of c) (byte_of u) byte) ∙ and-false (d == place_of u)
    marked_cell d c (inr differ) own (inl byte) =
        ap (λ t. if t && d == place_of u then has_bit sharers i && (new || is_changed s cell) else with_marks i sharers u new s (Overwrites d c)) (ne_eqb c cell differ)
        ∙ retold i (i + 1) d c (sym (not_at_once i d c (λ e. differ (omega (arith, e, byte)))))

    pub marked_next : (fact : Fact)
        → with_overwriter (place_of u) cell (has_bit sharers i && (new || is_changed s cell)) (with_marks i sharers u new s) fact
        ≡ with_marks (i + 1) sharers u new s fact
    marked_next Here = refl
    marked_next DirectionSet = refl
    marked_next (Has c property) = refl
    marked_next (Unwritten k b) = refl
    marked_next (Overwrites d c) = marked_cell d c (cases_eq c cell) (cases_eq d (place_of u)) (cases_eq (byte_of c) (byte_of u))
