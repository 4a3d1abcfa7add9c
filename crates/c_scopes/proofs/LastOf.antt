-- The last of a list that passes a test.
use Rattle.std.proofs.Common.{◌≡◌, Bool, true, false, cond, List, [], ◌∷◌, ◌++◌, reverse, find, Option, Some, None, All, refl, ap, ◌∙◌}
use Rattle.std.specs.Option.{option_or}
use Rattle.std.specs.Prelude.{MatchOption}
use Rattle.std.proofs.lemmas.List.{reverse-append}
use Rattle.std.proofs.lemmas.List.Elements.{All-nil, All-cons}
use Rattle.std.proofs.lemmas.List.Folds.{find-append}
use Rattle.c_scopes.specs.Seen.{last_of}

-- one more at the end
pub last_of-push : {A : Type 0} (test : A → Bool) (xs : List A) (x : A) → last_of test (xs ++ x ∷ []) ≡ cond (test x) (Some x) (last_of test xs)
last_of-push test xs x = ap (find test) (reverse-append xs (x ∷ []))

-- one more at the beginning
pub last_of-cons : {A : Type 0} (test : A → Bool) (x : A) (xs : List A)
    → last_of test (x ∷ xs) ≡ option_or (last_of test xs) (cond (test x) (Some x) None)
last_of-cons test x xs = ap (find test) (reverse-append (x ∷ []) xs) ∙ find-append test (reverse xs) (x ∷ [])

pub record IsLast {A : Type 0} (P Q : A → Type 0) (xs : List A) (x : A) : Type 0 where
  pub before : List A
  pub behind : List A
  pub among : xs ≡ before ++ x ∷ behind
  pub passes : P x
  pub last : All Q behind

module _ {A : Type 0} (P Q : A → Type 0) (test : A → Bool) (yes : (x : A) → test x ≡ true → P x) (not : (x : A) → test x ≡ false → Q x) where
  further : (x : A) (xs : List A) (found : Option A) → test x ≡ false → MatchOption found (All Q xs) (IsLast P Q xs)
      → MatchOption (option_or found None) (All Q (x ∷ xs)) (IsLast P Q (x ∷ xs))
  further x xs None fails h = All-cons Q x xs (not x fails) h
  further x xs (Some y) fails h = record { before = x ∷ h.before; behind = h.behind; among = ap (λ ys. x ∷ ys) h.among; passes = h.passes; last = h.last }

  here : (x : A) (xs : List A) (found : Option A) → test x ≡ true → MatchOption found (All Q xs) (IsLast P Q xs)
      → MatchOption (option_or found (Some x)) (All Q (x ∷ xs)) (IsLast P Q (x ∷ xs))
  here x xs None passes h = record { before = []; behind = xs; among = refl; passes = yes x passes; last = h }
  here x xs (Some y) passes h = record { before = x ∷ h.before; behind = h.behind; among = ap (λ ys. x ∷ ys) h.among; passes = h.passes; last = h.last }

  step : (x : A) (xs : List A) (found : Option A) (b : Bool) → test x ≡ b → MatchOption found (All Q xs) (IsLast P Q xs)
      → MatchOption (option_or found (cond b (Some x) None)) (All Q (x ∷ xs)) (IsLast P Q (x ∷ xs))
  step x xs found true e h = here x xs found e h
  step x xs found false e h = further x xs found e h

  -- What is found passes, and none behind it does; where none is found, none passes.
  pub last_of-is_last : (xs : List A) → MatchOption (last_of test xs) (All Q xs) (IsLast P Q xs)
  last_of-is_last [] = All-nil Q
  last_of-is_last (x ∷ xs) = rw (last_of-cons test x xs) (step x xs (last_of test xs) (test x) refl (last_of-is_last xs))
