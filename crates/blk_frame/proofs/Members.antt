-- What stands in lists.
use Rattle.std.proofs.Common.{◌≡◌, inl, inr, ℕ, zero, suc, ◌+◌, ◌<◌, ◌≤◌, Bool, true, false, List, [], ◌∷◌, ◌++◌, map, filter, refl, sym, ap, subst, ◌∙◌, arith}
use Rattle.std.specs.List.{list_any, range_with_len, flat_map}
use Rattle.std.proofs.lemmas.Bool.{cases_Bool, cases_eq, or_left, or_right}
use Rattle.asm_core.specs.Lists.{IsMember}

module _ {A : Type 0} where
  pub any_in : (f : A → Bool) (xs : List A) (y : A) → IsMember y xs → f y ≡ true → list_any f xs ≡ true
  any_in f [] y is holds = absurd is
  any_in f (x ∷ xs) y (inl same) holds = or_left (f x) (list_any f xs) (ap f (sym same) ∙ holds)
  any_in f (x ∷ xs) y (inr later) holds = or_right (f x) (list_any f xs) (any_in f xs y later holds)

  pub in_front : (xs ys : List A) (y : A) → IsMember y xs → IsMember y (xs ++ ys)
  in_front [] ys y is = absurd is
  in_front (x ∷ xs) ys y (inl same) = inl same
  in_front (x ∷ xs) ys y (inr later) = inr (in_front xs ys y later)

  pub in_back : (xs ys : List A) (y : A) → IsMember y ys → IsMember y (xs ++ ys)
  in_back [] ys y is = is
  in_back (x ∷ xs) ys y is = inr (in_back xs ys y is)

  pub in_filter : (test : A → Bool) (xs : List A) (y : A) → IsMember y xs → test y ≡ true → IsMember y (filter test xs)
  in_filter test [] y is holds = absurd is
  in_filter test (x ∷ xs) y (inl same) holds = let here : test x ≡ true = ap test (sym same)
      ∙ holds in rw here (inl same)
  in_filter test (x ∷ xs) y (inr later) holds = elim (cases_Bool (test x)) [
    | inl there ↦ rw there (inr (in_filter test xs y later holds))
    | inr gone ↦ rw gone (in_filter test xs y later holds)
  ]

  pub from_filter : (test : A → Bool) (xs : List A) (y : A) → IsMember y (filter test xs) → IsMember y xs
      × (test y ≡ true)
  from_filter test [] y is = absurd is
  from_filter test (x ∷ xs) y is = by_test (test x) refl (λ later. from_filter test xs y later)
    where
      kept : test x ≡ true → IsMember y (x ∷ filter test xs)
          → (IsMember y (filter test xs) → IsMember y xs × (test y ≡ true)) → IsMember y (x ∷ xs) × (test y ≡ true)
      kept here (inl same) rest = (inl same, ap test same ∙ here)
      kept here (inr later) rest = (inr (rest later).0, (rest later).1)

      by_test : (b : Bool) → test x ≡ b → (IsMember y (filter test xs) → IsMember y xs × (test y ≡ true))
          → IsMember y (x ∷ xs) × (test y ≡ true)
      by_test true e rest = kept e (rw e at is) rest
      by_test false e rest = (inr (rest (rw e at is)).0, (rest (rw e at is)).1)

module _ {A B : Type 0} where
  pub in_map : (f : A → B) (xs : List A) (y : A) → IsMember y xs → IsMember (f y) (map f xs)
  in_map f [] y is = absurd is
  in_map f (x ∷ xs) y (inl same) = inl (ap f same)
  in_map f (x ∷ xs) y (inr later) = inr (in_map f xs y later)

  pub in_flat : (f : A → List B) (xs : List A) (y : A) (z : B) → IsMember y xs → IsMember z (f y)
      → IsMember z (flat_map f xs)
  in_flat f [] y z is holds = absurd is
  in_flat f (x ∷ xs) y z (inl same) holds = in_front (f x) (flat_map f xs) z (subst (λ a. IsMember z (f a)) same holds)
  in_flat f (x ∷ xs) y z (inr later) holds = in_back (f x) (flat_map f xs) z (in_flat f xs y z later holds)

in_range_from : (n a k : ℕ) → a ≤ k → k < a + n → IsMember k (range_with_len a n)
in_range_from zero a k le lt = absurd (omega (arith, le, lt))
in_range_from (suc n) a k le lt = elim (cases_eq k a) [
  | inl same ↦ inl same
  | inr other ↦ inr (in_range_from n (a + 1) k (omega (arith, le, other)) (omega (arith, lt)))
]

pub in_range : (n k : ℕ) → k < n → IsMember k (range_with_len 0 n)
in_range n k lt = in_range_from n 0 k (omega arith) (omega (arith, lt))
