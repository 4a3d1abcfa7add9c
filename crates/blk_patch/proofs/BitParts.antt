-- Bits of numbers of which each is a bit of another one.
use Rattle.std.proofs.Common.{◌≡◌, ◌⊎◌, inl, inr, ℕ, ◌<◌, max, min, Bool, true, false, bit_and, bit_or, refl, sym, ◌∙◌, arith, if◌then◌else◌}
use Rattle.std.specs.Int.{bit_at}
use Rattle.std.proofs.lemmas.Bool.{cases_eq}
use Rattle.std.proofs.lemmas.Nat.Bits.{bit_at_and, bit_at_or, bit_at-lt, bit_at-zero}

-- each bit of the first is one of the second
abbrev pub IsPart : ℕ → ℕ → Type 0
IsPart a b = (k : ℕ) → bit_at a k ≡ 1 → bit_at b k ≡ 1

least_one : (a b : ℕ) → a < 2 → min a b ≡ 1 → a ≡ 1
least_one a b lt e = omega (arith, lt, e)

one_of : (a b : ℕ) → a < 2 → b < 2 → max a b ≡ 1 → (a ≡ 1) ⊎ (b ≡ 1)
one_of a b la lb e = elim (cases_eq a 1) [ inl same ↦ inl same | inr other ↦ inr (omega (arith, la, lb, e, other)) ]

left_one : (a b : ℕ) → b < 2 → a ≡ 1 → max a b ≡ 1
left_one a b lt e = omega (arith, lt, e)

right_one : (a b : ℕ) → a < 2 → b ≡ 1 → max a b ≡ 1
right_one a b lt e = omega (arith, lt, e)

pub in_first : (a b k : ℕ) → bit_at (bit_and a b) k ≡ 1 → bit_at a k ≡ 1
in_first a b k e = least_one (bit_at a k) (bit_at b k) (bit_at-lt a k) (sym (bit_at_and a b k) ∙ e)

pub or_part : (a b c d : ℕ) → IsPart a c → IsPart b d → IsPart (bit_or a b) (bit_or c d)
or_part a b c d left right k e =
    bit_at_or c d k ∙ by (one_of (bit_at a k) (bit_at b k) (bit_at-lt a k) (bit_at-lt b k) (sym (bit_at_or a b k) ∙ e))
  where
    by : (bit_at a k ≡ 1) ⊎ (bit_at b k ≡ 1) → max (bit_at c k) (bit_at d k) ≡ 1
    by (inl h) = left_one (bit_at c k) (bit_at d k) (bit_at-lt d k) (left k h)
    by (inr h) = right_one (bit_at c k) (bit_at d k) (bit_at-lt c k) (right k h)

none_set : (k : ℕ) → bit_at 0 k ≡ 1 → ⊥
none_set k e = let none = bit_at-zero k in omega (arith, e, none)

pub if_part : (a b : Bool) (n : ℕ) → (a ≡ true → b ≡ true) → IsPart (if a then n else 0) (if b then n else 0)
if_part true true n up k e = e
if_part true false n up k e = let wrong : false ≡ true = up refl in cc
if_part false b n up k e = absurd (none_set k e)
