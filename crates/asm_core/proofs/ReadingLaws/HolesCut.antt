-- Where a hole may be lost among elements that are cut: what is written between the cuts holds no hole.
use Rattle.std.proofs.Common.{◌≡◌, ℕ, zero, suc, ◌+◌, ◌==◌, ◌||◌, ◌&&◌, ◌≤◌, not, List, [], ◌∷◌, length, map, take, drop, Bool, true, false, cond, refl, slice_index, arith}
use Rattle.std.proofs.Math.Dec.{eqb-suc-zero}
use Rattle.std.proofs.lemmas.Bool.{and_from, eqb-true}
use Rattle.std.specs.List.{prefix_len, list_all}
use Rattle.asm_core.specs.Reading.Cut.{is_blank, begun}
use Rattle.asm_core.specs.Reading.Operands.{atom_code, content_len, ended, trimmed, before, comma_outside}
use Rattle.asm_core.proofs.ReadingLaws.CutWhole.{first_true, both_true, by_code, behind}
use Rattle.asm_core.proofs.ReadingLaws.WrittenCodes.{no_hole}
use Rattle.asm_core.specs.declared.reading.Leaf.{Leaf}
use Rattle.asm_core.specs.declared.reading.Atom.{Atom}

abbrev pub codes_of : List Atom → List ℕ
codes_of xs = map atom_code xs

one_more : (n : ℕ) → 1 + n ≡ suc n
one_more n = omega arith

one_behind : (n : ℕ) → (1 + n) + 1 ≡ suc (n + 1)
one_behind n = omega arith

module _ (is_lost : Leaf → Bool) where
  -- an element that is no hole, or isn't lost
  abbrev pub is_held : Atom → Bool
  is_held x = not (atom_code x == 0) || not (is_lost x.leaf)

  abbrev pub are_held : List Atom → Bool
  are_held xs = list_all is_held xs

  no_code : (x : Atom) → not (atom_code x == 0) ≡ true → is_held x ≡ true
  no_code x h = rw h refl

  pub held_free : (x : Atom) → is_held x ≡ false → atom_code x ≡ 0
  held_free x h = by (atom_code x == 0) refl
    where
      by : (b : Bool) → (atom_code x == 0) ≡ b → atom_code x ≡ 0
      by true e = eqb-true (atom_code x) 0 e
      by false e = let no : true ≡ false = rw e at h in cc

  passes : (p : ℕ → Bool) → p 0 ≡ false → (x : Atom) → p (atom_code x) ≡ true → is_held x ≡ true
  passes p none x h = by_code atom_code is_held held_free p none x h

  pub held_codes : (xs : List Atom) → no_hole (codes_of xs) ≡ true → are_held xs ≡ true
  held_codes [] h = refl
  held_codes (x ∷ xs) h =
      and_from (is_held x) (are_held xs) (no_code x (first_true _ (no_hole (codes_of xs)) h))
      (held_codes xs (both_true (not (atom_code x == 0)) _ h))

  -- ---- cuts

  -- behind what passes a test which 0 doesn't
  pub held_behind : (p : ℕ → Bool) → p 0 ≡ false → (xs : List Atom)
      → are_held (drop (prefix_len p (codes_of xs)) xs) ≡ true → are_held xs ≡ true
  held_behind p none xs h = behind atom_code is_held held_free p none xs h

  held_begun : (xs : List Atom) → are_held (begun atom_code xs) ≡ true → are_held xs ≡ true
  unfolding begun
  held_begun xs h = held_behind is_blank refl xs h

  held_content : (xs : List Atom) → are_held (take (content_len (codes_of xs)) xs) ≡ true → are_held xs ≡ true
  held_content [] h = refl
  held_content (x ∷ xs) h = by (held_content xs) (content_len (codes_of xs) == 0) (is_blank (atom_code x)) refl refl h
    where
      n : ℕ
      n = content_len (codes_of xs)

      taken : (are_held (take n xs) ≡ true → are_held xs ≡ true) → are_held (take (suc n) (x ∷ xs)) ≡ true
          → are_held (x ∷ xs) ≡ true
      taken more h = and_from (is_held x) (are_held xs) (first_true (is_held x) _ h) (more (both_true (is_held x) _ h))

      by : (are_held (take n xs) ≡ true → are_held xs ≡ true) → (b c : Bool) → (n == 0) ≡ b
          → is_blank (atom_code x) ≡ c → are_held (take (cond (b && c) 0 (1 + n)) (x ∷ xs)) ≡ true
          → are_held (x ∷ xs) ≡ true
      by more true true e f h =
          and_from (is_held x) (are_held xs) (passes is_blank refl x f)
          (more (rw (eqb-true n 0 e) refl))
      by more true false e f h = taken more (rw (one_more n) at h)
      by more false c e f h = taken more (rw (one_more n) at h)

  pub held_ended : (xs : List Atom) → are_held (ended xs) ≡ true → are_held xs ≡ true
  unfolding ended
  held_ended xs h = held_content xs h

  pub held_trimmed : (xs : List Atom) → are_held (trimmed xs) ≡ true → are_held xs ≡ true
  unfolding trimmed
  held_trimmed xs h = held_begun xs (held_ended (begun atom_code xs) h)

  -- all of it was taken
  pub all_taken : (n : ℕ) (xs : List Atom) → length xs ≤ n → are_held (take n xs) ≡ true → are_held xs ≡ true
  all_taken n [] short h = refl
  all_taken zero (x ∷ xs) short h = absurd (omega arith)
  all_taken (suc n) (x ∷ xs) short h =
      and_from (is_held x) (are_held xs) (first_true (is_held x) _ h)
      (all_taken n xs (omega arith) (both_true (is_held x) _ h))

  -- the first code c, which is none of a hole
  pub held_cut : (c : ℕ) → (0 == c) ≡ false → (xs : List Atom) → are_held (take (before c (codes_of xs)) xs) ≡ true
      → are_held (drop (before c (codes_of xs) + 1) xs) ≡ true → are_held xs ≡ true
  held_cut c other [] front rest = refl
  held_cut c other (x ∷ xs) front rest = by (held_cut c other xs) (atom_code x == c) refl front rest
    where
      n : ℕ
      n = before c (codes_of xs)

      taken : (are_held (take n xs) ≡ true → are_held (drop (n + 1) xs) ≡ true → are_held xs ≡ true)
          → are_held (take (suc n) (x ∷ xs)) ≡ true → are_held (drop (suc (n + 1)) (x ∷ xs)) ≡ true
          → are_held (x ∷ xs) ≡ true
      taken more front rest =
          and_from (is_held x) (are_held xs) (first_true (is_held x) _ front)
          (more (both_true (is_held x) _ front) rest)

      by : (are_held (take n xs) ≡ true → are_held (drop (n + 1) xs) ≡ true → are_held xs ≡ true) → (b : Bool)
          → (atom_code x == c) ≡ b → are_held (take (cond (not b) (1 + n) zero) (x ∷ xs)) ≡ true
          → are_held (drop (cond (not b) (1 + n) zero + 1) (x ∷ xs)) ≡ true → are_held (x ∷ xs) ≡ true
      by more true e front rest =
          and_from (is_held x) (are_held xs) (passes (λ d. d == c) other x e) rest
      by more false e front rest = taken more (rw (one_more n) at front) (rw (one_behind n) at rest)

  -- a comma outside parentheses
  pub held_comma : (inside : Bool) (xs : List Atom) → are_held (take (comma_outside inside (codes_of xs)) xs) ≡ true
      → are_held (drop (comma_outside inside (codes_of xs) + 1) xs) ≡ true → are_held xs ≡ true
  held_comma inside [] front rest = refl
  held_comma inside (x ∷ xs) front rest = by (held_comma next xs) ((atom_code x == 44) && not inside) refl front rest
    where
      next : Bool
      next = cond (atom_code x == 40) true (cond (atom_code x == 41) false inside)

      n : ℕ
      n = comma_outside next (codes_of xs)

      taken : (are_held (take n xs) ≡ true → are_held (drop (n + 1) xs) ≡ true → are_held xs ≡ true)
          → are_held (take (suc n) (x ∷ xs)) ≡ true → are_held (drop (suc (n + 1)) (x ∷ xs)) ≡ true
          → are_held (x ∷ xs) ≡ true
      taken more front rest =
          and_from (is_held x) (are_held xs) (first_true (is_held x) _ front)
          (more (both_true (is_held x) _ front) rest)

      by : (are_held (take n xs) ≡ true → are_held (drop (n + 1) xs) ≡ true → are_held xs ≡ true) → (b : Bool)
          → ((atom_code x == 44) && not inside) ≡ b → are_held (take (cond b 0 (1 + n)) (x ∷ xs)) ≡ true
          → are_held (drop (cond b 0 (1 + n) + 1) (x ∷ xs)) ≡ true → are_held (x ∷ xs) ≡ true
      by more true e front rest =
          and_from (is_held x) (are_held xs)
          (passes (λ d. d == 44) refl x (first_true (atom_code x == 44) (not inside) e)) rest
      by more false e front rest = taken more (rw (one_more n) at front) (rw (one_behind n) at rest)

  -- the first code is that
  pub held_after : (c : ℕ) (xs : List Atom) → (slice_index (codes_of xs) 0 == suc c) ≡ true
      → are_held (drop 1 xs) ≡ true → are_held xs ≡ true
  held_after c [] h rest = refl
  held_after c (x ∷ xs) h rest =
      and_from (is_held x) (are_held xs)
      (no_code x
      (let same : atom_code x ≡ suc c = eqb-true (atom_code x) (suc c) h in rw (same, eqb-suc-zero c) refl)) rest

  -- the last code is that
  pub held_before : (c n : ℕ) (xs : List Atom) → length xs ≤ n + 1 → are_held (take n xs) ≡ true
      → (slice_index (codes_of xs) n == suc c) ≡ true → are_held xs ≡ true
  held_before c n [] short front last = refl
  held_before c zero (x ∷ []) short front last = held_after c (x ∷ []) last refl
  held_before c zero (x ∷ y ∷ ys) short front last = absurd (omega arith)
  held_before c (suc n) (x ∷ xs) short front last =
      and_from (is_held x) (are_held xs) (first_true (is_held x) _ front)
      (held_before c n xs (omega arith) (both_true (is_held x) _ front) last)
