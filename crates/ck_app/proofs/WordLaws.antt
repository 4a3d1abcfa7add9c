-- Facts of words.
use Rattle.std.proofs.Common.{◌≡◌, ℕ, ◌<◌, List, [], ◌∷◌, length, map, Bool, true, false, None, Some, if◌then◌else◌, refl, ◌∙◌, ap, arith}
use Rattle.std.specs.List.{list_all}
use Rattle.std.proofs.lemmas.List.Folds.{list_all-map}
use Rattle.ck_app.specs.Words.{Command, is_name, check_command}

module _ {X : Type 0} (f : X → List ℕ) (strict : Bool) where
  by_test : (x : X) (xs : List X) (b : Bool) → list_all (λ y. is_name (f y)) (x ∷ xs) ≡ b
      → check_command strict (map f (x ∷ xs)) ≡ (if b then Some (Command.Check strict (map f (x ∷ xs))) else None)
  by_test x xs b is = ap (λ t. if t then Some (Command.Check strict (map f (x ∷ xs))) else None) (list_all-map is_name f (x ∷ xs) ∙ is)

  pub all_names : (xs : List X) → 0 < length xs → list_all (λ y. is_name (f y)) xs ≡ true → check_command strict (map f xs) ≡ Some (Command.Check strict (map f xs))
  all_names [] some is = absurd (omega arith)
  all_names (x ∷ xs) some is = by_test x xs true is

  pub no_names : (xs : List X) → list_all (λ y. is_name (f y)) xs ≡ false → check_command strict (map f xs) ≡ None
  no_names [] is = refl
  no_names (x ∷ xs) is = by_test x xs false is
