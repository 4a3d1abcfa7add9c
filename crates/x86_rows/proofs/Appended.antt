-- The k-th item of two lists, one behind the other.
use Rattle.std.proofs.Common.{◌≡◌, ℕ, zero, suc, ◌-◌, ◌<◌, ◌≤◌, List, [], ◌∷◌, ◌++◌, length, slice_get, refl, ap, ◌∙◌, arith}

pub slice_get-append_first : {A : Type 0} (xs ys : List A) (k : ℕ) → k < length xs → slice_get (xs ++ ys) k ≡ slice_get xs k
slice_get-append_first [] ys k within = absurd (omega arith)
slice_get-append_first (x ∷ xs) ys zero within = refl
slice_get-append_first (x ∷ xs) ys (suc k) within = slice_get-append_first xs ys k (omega arith)

pub slice_get-append_rest : {A : Type 0} (xs ys : List A) (k : ℕ) → length xs ≤ k → slice_get (xs ++ ys) k ≡ slice_get ys (k - length xs)
slice_get-append_rest [] ys k past = ap (slice_get ys) (same k)
  where
    same : (k : ℕ) → k ≡ k - 0
    same k = omega arith
slice_get-append_rest (x ∷ xs) ys zero past = absurd (omega arith)
slice_get-append_rest (x ∷ xs) ys (suc k) past = slice_get-append_rest xs ys k (omega arith) ∙ ap (slice_get ys) (same (length xs) k)
  where
    same : (n k : ℕ) → k - n ≡ suc k - suc n
    same n k = omega arith

pub ruleset nth_of_both = (slice_get-append_first, slice_get-append_rest)
