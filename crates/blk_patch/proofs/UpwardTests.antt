-- Tests that only become true: what makes the first one true makes the second one true.
use Rattle.std.proofs.Common.{◌≡◌, inl, inr, ◌&&◌, ◌||◌, not, List, [], ◌∷◌, ◌++◌, filter, Bool, true, false, refl, sym, ap, ◌∙◌, if◌then◌else◌}
use Rattle.std.specs.List.{list_any, flat_map}
use Rattle.std.proofs.lemmas.Bool.{or_cases, or_left, or_right}
use Rattle.asm_core.specs.Lists.{IsMember}
use Rattle.blk_deps.proofs.AnyLaws.{any_filter, any_flat_map}

abbrev pub Up : Bool → Bool → Type 0
Up a b = a ≡ true → b ≡ true

pub same_up : (a b : Bool) → a ≡ b → Up a b
same_up a b same is = sym same ∙ is

pub and_up : (a b c d : Bool) → Up a c → Up b d → Up (a && b) (c && d)
and_up true true c d first second is = rw (first refl, second refl) refl
and_up true false c d first second is = cc
and_up false b c d first second is = cc

pub or_up : (a b c d : Bool) → Up a c → Up b d → Up (a || b) (c || d)
or_up true b c d first second is = rw (first refl) refl
or_up false b true d first second is = refl
or_up false b false d first second is = second is

pub not_up : (a b : Bool) → Up b a → Up (not a) (not b)
not_up a false back is = refl
not_up true true back is = cc
not_up false true back is = let wrong : false ≡ true = back refl in cc

pub chosen_up : (b x y z w : Bool) → Up x z → Up y w → Up (if b then x else y) (if b then z else w)
chosen_up true x y z w first second is = first is
chosen_up false x y z w first second is = second is

-- ---- lists

module _ {A : Type 0} where
  pub any_up : (f g : A → Bool) → ((x : A) → Up (f x) (g x)) → (xs : List A) → Up (list_any f xs) (list_any g xs)
  any_up f g each [] is = is
  any_up f g each (x ∷ xs) is = or_up (f x) (list_any f xs) (g x) (list_any g xs) (each x) (any_up f g each xs) is

  -- more are kept, and more of them pass
  pub any_kept_up : (f g keep kept : A → Bool) → ((x : A) → Up (keep x) (kept x)) → ((x : A) → Up (f x) (g x))
      → (xs : List A) → Up (list_any f (filter keep xs)) (list_any g (filter kept xs))
  any_kept_up f g keep kept keeps each xs is =
      any_filter g kept xs
      ∙ any_up (λ x. keep x && f x) (λ x. kept x && g x)
      (λ x. and_up (keep x) (f x) (kept x) (g x) (keeps x) (each x)) xs
      (sym (any_filter f keep xs) ∙ is)

  pub any_flat_up : {B : Type 0} (f : B → Bool) (parts : A → List B) (keep kept : A → Bool)
      → ((x : A) → Up (keep x) (kept x)) → (xs : List A)
      → Up (list_any f (flat_map parts (filter keep xs))) (list_any f (flat_map parts (filter kept xs)))
  any_flat_up f parts keep kept keeps xs is =
      any_flat_map f parts (filter kept xs)
      ∙ any_kept_up (λ x. list_any f (parts x)) (λ x. list_any f (parts x)) keep kept keeps (λ x passes. passes) xs
      (sym (any_flat_map f parts (filter keep xs)) ∙ is)

  -- ---- members

  pub passing : (f : A → Bool) (xs : List A) → list_any f xs ≡ true → (x : A) × IsMember x xs × (f x ≡ true)
  passing f [] is = cc
  passing f (x ∷ xs) is = elim (or_cases (f x) (list_any f xs) is) [
    | inl here ↦ (x, inl refl, here)
    | inr later ↦ let found = passing f xs later in (found.0, inr found.1, found.2)
  ]

  pub any_member : (f : A → Bool) (xs : List A) (x : A) → IsMember x xs → f x ≡ true → list_any f xs ≡ true
  any_member f [] x member passes = absurd member
  any_member f (y ∷ ys) x (inl same) passes = or_left (f y) (list_any f ys) (ap f (sym same) ∙ passes)
  any_member f (y ∷ ys) x (inr later) passes = or_right (f y) (list_any f ys) (any_member f ys x later passes)

  pub any_more : (f : A → Bool) (xs ys : List A) → ((x : A) → IsMember x xs → IsMember x ys)
      → Up (list_any f xs) (list_any f ys)
  any_more f xs ys within is = let found = passing f xs is in
      any_member f ys found.0 (within found.0 found.1) found.2

  pub member_first : (x : A) (xs ys : List A) → IsMember x xs → IsMember x (xs ++ ys)
  member_first x [] ys member = absurd member
  member_first x (y ∷ xs) ys (inl same) = inl same
  member_first x (y ∷ xs) ys (inr later) = inr (member_first x xs ys later)

  pub member_second : (x : A) (xs ys : List A) → IsMember x ys → IsMember x (xs ++ ys)
  member_second x [] ys member = member
  member_second x (y ∷ xs) ys member = inr (member_second x xs ys member)
