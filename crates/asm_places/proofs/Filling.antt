-- Lists of 30 that are filled from the front.
use Rattle.std.proofs.Common.{◌≡◌, inl, inr, ℕ, ◌+◌, ◌<◌, List, length, Some, slice_get, slice_set, get_or, sym, ap, ◌∙◌, arith}
use Rattle.std.proofs.lemmas.Bool.{cases_eq}
use Rattle.std.proofs.lemmas.List.{get_or-set_same, get_or-set_other}
use Rattle.std.proofs.lemmas.Option.{slice_get-get_or}
use Rattle.register_search.proofs.Narrowing.{slice_get-set_same, slice_get-set_other}

pub filled_more : {A : Type 0} (xs : List A) (n : ℕ) (y default : A) (f : ℕ → A) → length xs ≡ 30 → n < 30 → y ≡ f n → ((k : ℕ) → k < n → slice_get xs k ≡ Some (f k))
    → (k : ℕ) → k < n + 1 → slice_get (slice_set xs n y) k ≡ Some (f k)
filled_more {A} xs n y default f size below is before k lt =
    let inside : n < length xs = omega arith in
    elim (cases_eq k n) [
      | inl same ↦ ap (slice_get (slice_set xs n y)) same ∙ slice_get-set_same xs n (get_or xs n default) y (slice_get-get_or xs n default inside)
          ∙ ap (λ (x : A). Some x) (is ∙ ap f (sym same))
      | inr differ ↦ slice_get-set_other xs n k y differ ∙ before k (omega arith)
    ]

pub read_more : {A : Type 0} (xs : List A) (n : ℕ) (y default : A) (f : ℕ → A) → length xs ≡ 30 → n < 30 → y ≡ f n → ((k : ℕ) → k < n → get_or xs k default ≡ f k)
    → (k : ℕ) → k < n + 1 → get_or (slice_set xs n y) k default ≡ f k
read_more xs n y default f size below is before k lt =
    let inside : n < length xs = omega arith in
    elim (cases_eq k n) [
      | inl same ↦ ap (λ m. get_or (slice_set xs n y) m default) same ∙ get_or-set_same xs n y default inside ∙ is ∙ ap f (sym same)
      | inr differ ↦ get_or-set_other xs n k y default differ ∙ before k (omega arith)
    ]
