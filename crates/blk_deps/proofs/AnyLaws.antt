-- Whether a number below a bound passes a test.
use Rattle.std.proofs.Common.{◌≡◌, ◌⊎◌, inl, inr, ℕ, zero, suc, ◌+◌, ◌<◌, ◌||◌, ◌&&◌, List, [], ◌∷◌, length, map, filter, get_or, Bool, true, false, refl, sym, ap, ◌∙◌, arith}
use Rattle.std.specs.List.{list_any, range_with_len, flat_map}
use Rattle.std.proofs.lemmas.Bool.{false≢true, cases_eq}
use Rattle.std.proofs.lemmas.List.Folds.{list_any-append, list_any_at}
use Rattle.std.proofs.lemmas.List.FromFn.{length-range_with_len, get_or-range_with_len}

pub true_or_false : (b : Bool) → (b ≡ true) ⊎ (b ≡ false)
true_or_false true = inl refl
true_or_false false = inr refl

-- two tests that are true of the same are one
pub same_truth : (a b : Bool) → (a ≡ true → b ≡ true) → (b ≡ true → a ≡ true) → a ≡ b
same_truth true b to from = sym (to refl)
same_truth false true to from = from refl
same_truth false false to from = refl

pub and_first : (a b : Bool) → (a && b) ≡ true → a ≡ true
and_first true b is = refl
and_first false b is = is

pub and_second : (a b : Bool) → (a && b) ≡ true → b ≡ true
and_second true b is = is
and_second false b is = absurd (false≢true is)

pub both_true : (a b : Bool) → a ≡ true → b ≡ true → (a && b) ≡ true
both_true a b first second = rw (first, second) refl

pub one_true : (a b : Bool) → (a || b) ≡ true → (a ≡ true) ⊎ (b ≡ true)
one_true true b is = inl refl
one_true false b is = inr is

-- a number below the bound that passes
pub record Below (test : ℕ → Bool) (n : ℕ) : Type 0 where
  pub at : ℕ
  pub below : at < n
  pub passes : test at ≡ true

pub any_at : (test : ℕ → Bool) (n k : ℕ) → k < n → test k ≡ true → list_any test (range_with_len 0 n) ≡ true
any_at test n k lt is =
    let within : k < length (range_with_len 0 n) = rw (length-range_with_len 0 n) lt in
    let read : get_or (range_with_len 0 n) k 0 ≡ k = omega (arith, get_or-range_with_len 0 n k 0 lt) in
    list_any_at test (range_with_len 0 n) k 0 within (ap test read ∙ is)

any_from : (test : ℕ → Bool) (a n : ℕ) → list_any test (range_with_len a n) ≡ true
    → (k : ℕ) × (k < a + n) × (test k ≡ true)
any_from test a zero is = absurd (false≢true is)
any_from test a (suc n) is = elim (one_true (test a) _ is) [
  | inl here ↦ (a, omega arith, here)
  | inr later ↦ let found = any_from test (a + 1) n later in (found.0, omega (arith, found.1), found.2)
]

pub any_below : (test : ℕ → Bool) (n : ℕ) → list_any test (range_with_len 0 n) ≡ true → Below test n
any_below test n is = let found = any_from test 0 n is in
    record { at = found.0; below = omega (arith, found.1); passes = found.2 }

pub none_below : (test : ℕ → Bool) (n : ℕ) → ((k : ℕ) → k < n → test k ≡ false)
    → list_any test (range_with_len 0 n) ≡ false
none_below test n none = elim (true_or_false (list_any test (range_with_len 0 n))) [
  | inl some ↦ let found = any_below test n some in absurd (let no_more = none found.at found.below in
      cc (found.passes, no_more))
  | inr is ↦ is
]

pub any_filter : {A : Type 0} (test keep : A → Bool) (xs : List A) → list_any test (filter keep xs)
    ≡ list_any (λ x. keep x && test x) xs
any_filter test keep [] = refl
any_filter test keep (x ∷ xs) = kept (keep x) refl (any_filter test keep xs)
  where
    kept : (b : Bool) → keep x ≡ b → list_any test (filter keep xs) ≡ list_any (λ y. keep y && test y) xs
        → list_any test (filter keep (x ∷ xs)) ≡ list_any (λ y. keep y && test y) (x ∷ xs)
    kept true is rest = rw is (ap (λ b. test x || b) rest)
    kept false is rest = rw is rest

pub any_map : {A B : Type 0} (test : B → Bool) (f : A → B) (xs : List A) → list_any test (map f xs)
    ≡ list_any (λ x. test (f x)) xs
any_map test f [] = refl
any_map test f (x ∷ xs) = ap (λ b. test (f x) || b) (any_map test f xs)

pub any_flat_map : {A B : Type 0} (test : B → Bool) (f : A → List B) (xs : List A) → list_any test (flat_map f xs)
    ≡ list_any (λ x. list_any test (f x)) xs
any_flat_map test f [] = refl
any_flat_map test f (x ∷ xs) = list_any-append test (f x) (flat_map f xs)
    ∙ ap (λ b. list_any test (f x) || b) (any_flat_map test f xs)

pub any_same : {A : Type 0} (one other : A → Bool) → ((x : A) → one x ≡ other x) → (xs : List A) → list_any one xs
    ≡ list_any other xs
any_same one other same [] = refl
any_same one other same (x ∷ xs) = rw (same x, any_same one other same xs) refl

pub and_then : (r a b : Bool) → a ≡ true → r ≡ b → r ≡ (a && b)
and_then r a b is same = rw is same

pub and_else : (r a b : Bool) → a ≡ false → r ≡ false → r ≡ (a && b)
and_else r a b is none = rw is none

pub or_then : (r a b : Bool) → a ≡ true → r ≡ true → r ≡ (a || b)
or_then r a b is some = rw is some

pub or_else : (r a b : Bool) → a ≡ false → r ≡ b → r ≡ (a || b)
or_else r a b is same = rw is same

-- no number below passes
pub record NoneBelow (test : ℕ → Bool) (n : ℕ) : Type 0 where
  pub none : (k : ℕ) → k < n → test k ≡ false

pub none_at_first : (test : ℕ → Bool) → NoneBelow test 0
none_at_first test = record { none = λ k below. absurd (omega arith) }

pub none_so_far : (test : ℕ → Bool) (n : ℕ) → test n ≡ false → NoneBelow test n → NoneBelow test (n + 1)
none_so_far test n here before = record { none = none }
  where
    none : (k : ℕ) → k < n + 1 → test k ≡ false
    none k below = elim (cases_eq k n) [
      | inl same ↦ rw same here
      | inr other ↦ before.none k (omega arith)
    ]
