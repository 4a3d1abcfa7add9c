-- Companies compared operand by operand.
use Rattle.std.proofs.Common.{◌≡◌, ◌≢◌, ℕ, ◌+◌, ◌<◌, ◌≤◌, ◌&&◌, List, [], ◌∷◌, length, drop, get_or, Bool, true, false, refl, ap, ◌∙◌, arith}
use Rattle.std.proofs.lemmas.List.{drop_all, drop_more}
use Rattle.asm_core.specs.Company.{held_at, same_held, same_company}
use Rattle.asm_core.specs.declared.sym.Place.{Place}
use Rattle.asm_core.specs.declared.company.Places.{Places}

module _ (p q : Place) where
  -- lists of other lengths
  pub other_length : (xs ys : List Places) → length xs ≢ length ys → same_company p xs q ys ≡ false
  unfolding same_company
  other_length [] [] ne = absurd (ne refl)
  other_length [] (y ∷ ys) ne = refl
  other_length (x ∷ xs) [] ne = refl
  other_length (x ∷ xs) (y ∷ ys) ne = go (same_held (held_at p x) (held_at q y)) (other_length xs ys (λ e. ne (omega (arith, e))))
    where
      go : (b : Bool) → same_company p xs q ys ≡ false → (b && same_company p xs q ys) ≡ false
      go true e = e
      go false e = refl

  one_more : (x y : Places) (xs ys : List Places) → same_held (held_at p x) (held_at q y) ≡ true → same_company p (x ∷ xs) q (y ∷ ys) ≡ same_company p xs q ys
  unfolding same_company
  one_more x y xs ys e = ap (λ b. b && same_company p xs q ys) e

  one_apart : (x y : Places) (xs ys : List Places) → same_held (held_at p x) (held_at q y) ≡ false → same_company p (x ∷ xs) q (y ∷ ys) ≡ false
  unfolding same_company
  one_apart x y xs ys e = ap (λ b. b && same_company p xs q ys) e

  -- an operand with the same at both places
  pub same_next : (xs ys : List Places) (k : ℕ) (d e : Places) → k < length xs → k < length ys → same_held (held_at p (get_or xs k d)) (held_at q (get_or ys k e)) ≡ true
      → same_company p (drop k xs) q (drop k ys) ≡ same_company p (drop (k + 1) xs) q (drop (k + 1) ys)
  same_next xs ys k d e in_xs in_ys same =
      ap (λ zs. same_company p zs q (drop k ys)) (drop_more xs k d in_xs) ∙ ap (λ zs. same_company p (get_or xs k d ∷ drop (k + 1) xs) q zs) (drop_more ys k e in_ys)
      ∙ one_more (get_or xs k d) (get_or ys k e) (drop (k + 1) xs) (drop (k + 1) ys) same

  -- and one that is another
  pub apart_here : (xs ys : List Places) (k : ℕ) (d e : Places) → k < length xs → k < length ys → same_held (held_at p (get_or xs k d)) (held_at q (get_or ys k e)) ≡ false
      → same_company p (drop k xs) q (drop k ys) ≡ false
  apart_here xs ys k d e in_xs in_ys apart =
      ap (λ zs. same_company p zs q (drop k ys)) (drop_more xs k d in_xs) ∙ ap (λ zs. same_company p (get_or xs k d ∷ drop (k + 1) xs) q zs) (drop_more ys k e in_ys)
      ∙ one_apart (get_or xs k d) (get_or ys k e) (drop (k + 1) xs) (drop (k + 1) ys) apart

  -- behind the last operand
  pub same_end : (xs ys : List Places) (k : ℕ) → length xs ≤ k → length ys ≤ k → same_company p (drop k xs) q (drop k ys) ≡ true
  unfolding same_company
  same_end xs ys k le_xs le_ys = ap (λ zs. same_company p zs q (drop k ys)) (drop_all k xs le_xs) ∙ ap (λ zs. same_company p [] q zs) (drop_all k ys le_ys)

pub ruleset company_steps = (other_length, same_next, apart_here, same_end)
