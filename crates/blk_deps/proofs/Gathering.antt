-- Gathering what the numbers of a list's items add, one by one.
use Rattle.std.proofs.Common.{◌≡◌, ℕ, zero, suc, ◌+◌, ◌<◌, ◌≤◌, ◌||◌, ◌&&◌, ◌==◌, nat_lt, inl, inr, List, [], ◌∷◌, length, take, drop, get_or, Bool, true, false, refl, sym, ap, ◌∙◌, arith}
use Rattle.std.specs.List.{list_any}
use Rattle.std.proofs.Math.Bool.{or-false}
use Rattle.std.proofs.lemmas.Bool.{cases_eq, cases_lt, eq-eqb, ne_eqb, lt-ltb, le-ltb}
use Rattle.std.proofs.lemmas.List.{take_all}
use Rattle.std.proofs.lemmas.List.Folds.{list_any_more}
use Rattle.asm_core.specs.Lists.{count_from}
use Rattle.asm_core.proofs.CountLaws.{counted_more, counted_all}

pub counted_length : {A : Type 0} (xs : List A) (m : ℕ) → length (count_from m xs) ≡ length xs
counted_length [] m = refl
counted_length (x ∷ xs) m = ap suc (counted_length xs (m + 1))

pub counted_at : {A : Type 0} (xs : List A) (m k d : ℕ) → k < length xs → get_or (count_from m xs) k d ≡ m + k
counted_at [] m k d lt = absurd (omega arith)
counted_at (x ∷ xs) m zero d lt = omega arith
counted_at (x ∷ xs) m (suc k) d lt = let below : k < length xs = omega arith in let rest = counted_at xs (m + 1) k d
    below in omega (arith, rest)

-- what the first k numbers have is gathered
pub record Gathers (count : ℕ) (has : ℕ → Bool) (test : ℕ → ℕ → Bool) (numbers : List ℕ) (k : ℕ) : Type 0 where
  pub each : (n : ℕ) → n < count → has n ≡ list_any (test n) (take k numbers)

pub gathers_start : (count : ℕ) (has : ℕ → Bool) (test : ℕ → ℕ → Bool) (numbers : List ℕ)
    → ((n : ℕ) → n < count → has n ≡ false) → Gathers count has test numbers 0
gathers_start count has test numbers none = record { each = λ n lt. none n lt }

pub gathers_more : {A : Type 0} (xs : List A) (count : ℕ) (has next : ℕ → Bool) (test : ℕ → ℕ → Bool) (k : ℕ)
    → k < length xs
    → Gathers count has test (count_from 0 xs) k → ((n : ℕ) → n < count → next n ≡ (has n || test n k))
    → Gathers count next test (count_from 0 xs) (k + 1)
gathers_more xs count has next test k lt so_far more = record {
  each = λ n within.
      let inside : k < length (count_from 0 xs) = omega (arith, counted_length xs 0) in
      let here : get_or (count_from 0 xs) k 0 ≡ k = omega (arith, counted_at xs 0 k 0 lt) in
      more n within ∙ ap (λ b. b || test n k) (so_far.each n within)
      ∙ ap (λ j. list_any (test n) (take k (count_from 0 xs)) || test n j) (sym here)
      ∙ sym (list_any_more (test n) (count_from 0 xs) k 0 inside);
}

pub gathers_all : {A : Type 0} (xs : List A) (count : ℕ) (has : ℕ → Bool) (test : ℕ → ℕ → Bool) (k : ℕ) → length xs ≤ k
    → Gathers count has test (count_from 0 xs) k → (n : ℕ) → n < count → has n ≡ list_any (test n) (count_from 0 xs)
gathers_all xs count has test k le so_far n within =
    so_far.each n within ∙ ap (list_any (test n)) (take_all k (count_from 0 xs) (omega (arith, counted_length xs 0)))

-- ---- whether some number passes

any_here : (test : ℕ → Bool) (x : ℕ) (xs : List ℕ) → test x ≡ true → list_any test (x ∷ xs) ≡ true
any_here test x xs e = ap (λ b. b || list_any test xs) e

any_later : (test : ℕ → Bool) (x : ℕ) (xs : List ℕ) → test x ≡ false → list_any test (x ∷ xs) ≡ list_any test xs
any_later test x xs e = ap (λ b. b || list_any test xs) e

pub passes_here : {A : Type 0} (xs : List A) (test : ℕ → Bool) (k : ℕ) (all : Bool) → k < length xs → test k ≡ true
    → list_any test (count_from k (drop k xs)) ≡ all → true ≡ all
passes_here xs test k all lt e rest = sym (any_here test k (count_from (k + 1) (drop (k + 1) xs)) e)
    ∙ sym (ap (list_any test) (counted_more xs k k lt)) ∙ rest

pub passes_later : {A : Type 0} (xs : List A) (test : ℕ → Bool) (k : ℕ) (all : Bool) → k < length xs → test k ≡ false
    → list_any test (count_from k (drop k xs)) ≡ all
    → list_any test (count_from (k + 1) (drop (k + 1) xs)) ≡ all
passes_later xs test k all lt e rest = sym (any_later test k (count_from (k + 1) (drop (k + 1) xs)) e)
    ∙ sym (ap (list_any test) (counted_more xs k k lt)) ∙ rest

pub none_passes : {A : Type 0} (xs : List A) (test : ℕ → Bool) (k : ℕ) (all : Bool) → length xs ≤ k
    → list_any test (count_from k (drop k xs)) ≡ all → false ≡ all
none_passes xs test k all le rest = sym (ap (list_any test) (counted_all xs k k le)) ∙ rest

-- ---- numbers told one by one

-- the numbers below k are told, and no others
pub record TellsBelow (has test : ℕ → Bool) (k : ℕ) : Type 0 where
  pub each : (n : ℕ) → n < 64 → has n ≡ (nat_lt n k && test n)

pub tells_start : (has test : ℕ → Bool) → ((n : ℕ) → has n ≡ false) → TellsBelow has test 0
tells_start has test none = record { each = λ n lt. none n ∙ sym (ap (λ b. b && test n) (le-ltb n 0 (omega arith))) }

pub tells_more : (has next test : ℕ → Bool) (k : ℕ) (on : Bool) → on ≡ test k
    → ((n : ℕ) → n < 64 → next n ≡ (has n || (n == k && on))) → TellsBelow has test k → TellsBelow next test (k + 1)
tells_more has next test k on here more below = record
    { each = λ n lt. more n lt ∙ ap (λ b. b || (n == k && on)) (below.each n lt) ∙ step n }
  where
    step : (n : ℕ) → ((nat_lt n k && test n) || (n == k && on)) ≡ (nat_lt n (k + 1) && test n)
    step n = elim (cases_eq n k) [
      | inl same ↦ rw (le-ltb n k (omega arith), lt-ltb n (k + 1) (omega arith), eq-eqb n k same)
          (here ∙ ap test (sym same))
      | inr differ ↦ elim (cases_lt n k) [
        | inl lt ↦ rw (lt-ltb n k lt, lt-ltb n (k + 1) (omega arith), ne_eqb n k differ) (or-false _)
        | inr le ↦ rw (le-ltb n k le, le-ltb n (k + 1) (omega arith), ne_eqb n k differ) refl
      ]
    ]

pub tells_all : (has test : ℕ → Bool) (k n : ℕ) → TellsBelow has test k → n < k → n < 64 → has n ≡ test n
tells_all has test k n below lt within = below.each n within ∙ ap (λ b. b && test n) (lt-ltb n k lt)
