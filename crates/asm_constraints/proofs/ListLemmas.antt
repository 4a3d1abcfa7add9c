-- What tests and searches tell of the items of a list.
use Rattle.std.proofs.Common.{◌≡◌, ℕ, zero, suc, ◌<◌, List, [], ◌∷◌, ◌++◌, map, length, replicate, Bool, true, false, cond, ◌||◌, Option, Some, None, slice_get, refl, sym, ◌∙◌, subst, arith}
use Rattle.std.specs.List.{filter, find, flat_map, list_any}
use Rattle.std.proofs.lemmas.List.Folds.{list_any-append}

pub false_left : (a b : Bool) → (a || b) ≡ false → a ≡ false
false_left true b e = cc
false_left false b e = refl

pub false_right : (a b : Bool) → (a || b) ≡ false → b ≡ false
false_right true b e = cc
false_right false b e = e

module _ {A : Type 0} where
  -- an item with this fact, and where it is
  pub record Has (P : A → Type 0) (xs : List A) : Type 0 where
    pub place : ℕ
    pub item : A
    pub there : slice_get xs place ≡ Some item
    pub holds : P item

  later : (P : A → Type 0) (x : A) (xs : List A) → Has P xs → Has P (x ∷ xs)
  later P x xs h = record { place = suc h.place; item = h.item; there = h.there; holds = h.holds }

  module _ (p : A → Bool) where
    abbrev Passes : A → Type 0
    Passes x = p x ≡ true

    any_at : (b : Bool) (x : A) (xs : List A) → p x ≡ b → (b || list_any p xs) ≡ true → (list_any p xs ≡ true → Has (λ y. p y ≡ true) xs) → Has (λ y. p y ≡ true) (x ∷ xs)
    any_at true x xs q e behind = record { place = 0; item = x; there = refl; holds = q }
    any_at false x xs q e behind = later (λ y. p y ≡ true) x xs (behind e)

    pub any-true : (xs : List A) → list_any p xs ≡ true → Has (λ y. p y ≡ true) xs
    any-true [] e = cc
    any-true (x ∷ xs) e = any_at (p x) x xs refl e (any-true xs)

    pub any-false : (xs : List A) (k : ℕ) (x : A) → list_any p xs ≡ false → slice_get xs k ≡ Some x → p x ≡ false
    any-false [] k x e at = cc
    any-false (y ∷ ys) zero x e at = let same : y ≡ x = cc in subst (λ (z : A). p z ≡ false) same (false_left (p y) (list_any p ys) e)
    any-false (y ∷ ys) (suc k) x e at = any-false ys k x (false_right (p y) (list_any p ys) e) at

    -- no item of the parts of a list passes
    pub any_part-false : (parts : List (List A)) (k j : ℕ) (part : List A) (x : A) → list_any p (flat_map (λ (xs : List A). xs) parts) ≡ false
        → slice_get parts k ≡ Some part → slice_get part j ≡ Some x → p x ≡ false
    any_part-false [] k j part x e at there = cc
    any_part-false (q ∷ qs) zero j part x e at there =
        let same : q ≡ part = cc in
        let split : (list_any p q || list_any p (flat_map (λ (xs : List A). xs) qs)) ≡ false = sym (list_any-append p q (flat_map (λ (xs : List A). xs) qs)) ∙ e in
        any-false part j x (subst (λ (xs : List A). list_any p xs ≡ false) same (false_left _ _ split)) there
    any_part-false (q ∷ qs) (suc k) j part x e at there =
        let split : (list_any p q || list_any p (flat_map (λ (xs : List A). xs) qs)) ≡ false = sym (list_any-append p q (flat_map (λ (xs : List A). xs) qs)) ∙ e in
        any_part-false qs k j part x (false_right (list_any p q) _ split) at there

    find_at : (b : Bool) (x y : A) (xs : List A) → p x ≡ b → cond b (Some x) (find p xs) ≡ Some y → (find p xs ≡ Some y → Has (λ z. z ≡ y) xs) → Has (λ z. z ≡ y) (x ∷ xs)
    find_at true x y xs q e behind = let same : x ≡ y = cc in record { place = 0; item = x; there = refl; holds = same }
    find_at false x y xs q e behind = later (λ z. z ≡ y) x xs (behind e)

    -- what is found is there
    pub find-Some : (xs : List A) (y : A) → find p xs ≡ Some y → Has (λ z. z ≡ y) xs
    find-Some [] y e = cc
    find-Some (x ∷ xs) y e = find_at (p x) x y xs refl e (find-Some xs y)

    find_none_at : (b : Bool) (x : A) (o : Option A) → cond b (Some x) o ≡ None → (b ≡ false) × (o ≡ None)
    find_none_at true x o e = cc
    find_none_at false x o e = (refl, e)

    -- where nothing is found nothing passes
    pub find-None : (xs : List A) (k : ℕ) (x : A) → find p xs ≡ None → slice_get xs k ≡ Some x → p x ≡ false
    find-None [] k x e at = cc
    find-None (y ∷ ys) zero x e at = let same : y ≡ x = cc in subst (λ (z : A). p z ≡ false) same (find_none_at (p y) y (find p ys) e).0
    find-None (y ∷ ys) (suc k) x e at = find-None ys k x (find_none_at (p y) y (find p ys) e).1 at

    filter_none_at : (b : Bool) (x : A) (xs : List A) → cond b (x ∷ xs) xs ≡ [] → (b ≡ false) × (xs ≡ [])
    filter_none_at true x xs e = cc
    filter_none_at false x xs e = (refl, e)

    -- where a filter leaves nothing nothing passes
    pub filter-none : (xs : List A) (k : ℕ) (x : A) → filter p xs ≡ [] → slice_get xs k ≡ Some x → p x ≡ false
    filter-none [] k x e at = cc
    filter-none (y ∷ ys) zero x e at = let same : y ≡ x = cc in subst (λ (z : A). p z ≡ false) same (filter_none_at (p y) y (filter p ys) e).0
    filter-none (y ∷ ys) (suc k) x e at = filter-none ys k x (filter_none_at (p y) y (filter p ys) e).1 at

  -- an item within a list
  pub slice_get_there : (xs : List A) (k : ℕ) → k < length xs → (x : A) × (slice_get xs k ≡ Some x)
  slice_get_there [] k lt = absurd (omega arith)
  slice_get_there (x ∷ xs) zero lt = (x, refl)
  slice_get_there (x ∷ xs) (suc k) lt = slice_get_there xs k (omega arith)

  -- an item of a list of equal items
  pub slice_get-replicate : (n k : ℕ) (x y : A) → slice_get (replicate n x) k ≡ Some y → y ≡ x
  slice_get-replicate zero k x y e = cc
  slice_get-replicate (suc n) zero x y e = cc
  slice_get-replicate (suc n) (suc k) x y e = slice_get-replicate n k x y e

module _ {A B : Type 0} where
  -- an item of a mapped list
  pub slice_get_mapped : (f : A → B) (xs : List A) (k : ℕ) (y : B) → slice_get (map f xs) k ≡ Some y → (x : A) × (slice_get xs k ≡ Some x) × (y ≡ f x)
  slice_get_mapped f [] k y e = cc
  slice_get_mapped f (x ∷ xs) zero y e = let same : y ≡ f x = cc in (x, refl, same)
  slice_get_mapped f (x ∷ xs) (suc k) y e = slice_get_mapped f xs k y e

  pub map-none : (f : A → B) (xs : List A) (ys : List B) → map f xs ++ ys ≡ [] → xs ≡ []
  map-none f [] ys e = refl
  map-none f (x ∷ xs) ys e = cc
