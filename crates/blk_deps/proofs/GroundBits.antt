-- Bits of words that are joined, cut and shifted.
use Rattle.std.proofs.Common.{◌≡◌, inl, inr, ℕ, ◌+◌, ◌-◌, ◌*◌, ◌/◌, ◌%◌, ◌^◌, ◌<◌, ◌≤◌, ◌||◌, ◌&&◌, ◌==◌, min, max, Bool, true, false, not, bit_or, bit_and, refl, sym, ap, ◌∙◌, arith}
use Rattle.std.specs.Int.{bit_at, w64}
use Rattle.std.proofs.Math.Bool.{or-false, or-true, and-true}
use Rattle.std.proofs.lemmas.Bool.{cases_eq, eq-eqb, ne_eqb}
use Rattle.std.proofs.lemmas.Nat.Bits.{bit_at_or, bit_at_and, bit_at_not, bit_at-lt, bit_at-zero, bit_at_cat_low, bit_at_above, bit_at_set_same, bit_at_set_other}
use Rattle.blk_deps.specs.Ground.{has_bit}

one_of_max : (a b : ℕ) → a < 2 → b < 2 → (max a b == 1) ≡ ((a == 1) || (b == 1))
one_of_max a b la lb = elim (cases_eq a 1) [
  | inl one ↦ elim (cases_eq b 1) [
    | inl too ↦ rw (one, too) refl
    | inr other ↦ let none : b ≡ 0 = omega arith in rw (one, none) refl
  ]
  | inr other ↦ let none : a ≡ 0 = omega arith in elim (cases_eq b 1) [
    | inl one ↦ rw (none, one) refl
    | inr too ↦ let neither : b ≡ 0 = omega arith in rw (none, neither) refl
  ]
]

one_of_min : (a b : ℕ) → a < 2 → b < 2 → (min a (1 - b) == 1) ≡ ((a == 1) && not (b == 1))
one_of_min a b la lb = elim (cases_eq a 1) [
  | inl one ↦ elim (cases_eq b 1) [
    | inl too ↦ rw (one, too) refl
    | inr other ↦ let none : b ≡ 0 = omega arith in rw (one, none) refl
  ]
  | inr other ↦ let none : a ≡ 0 = omega arith in elim (cases_eq b 1) [
    | inl one ↦ rw (none, one) refl
    | inr too ↦ let neither : b ≡ 0 = omega arith in rw (none, neither) refl
  ]
]

pub or_bit : (a b k : ℕ) → has_bit (bit_or a b) k ≡ (has_bit a k || has_bit b k)
or_bit a b k = ap (λ n. n == 1) (bit_at_or a b k) ∙ one_of_max _ _ (bit_at-lt a k) (bit_at-lt b k)

pub no_bit : (k : ℕ) → has_bit 0 k ≡ false
no_bit k = ap (λ n. n == 1) (bit_at-zero k)

pub and_not_bit : (a b k : ℕ) → b < 18446744073709551616 → k < 64
    → has_bit (bit_and a (18446744073709551615 - b)) k ≡ (has_bit a k && not (has_bit b k))
and_not_bit a b k fits within =
    ap (λ n. n == 1) (bit_at_and a (18446744073709551615 - b) k
    ∙ ap (min (bit_at a k)) (bit_at_not w64 b k fits within))
    ∙ one_of_min _ _ (bit_at-lt a k) (bit_at-lt b k)

pub set_bit : (w n k : ℕ) → n < 64 → has_bit (bit_or w (1 * 2 ^ n % 18446744073709551616)) k ≡ (has_bit w k || k == n)
set_bit w n k within = elim (cases_eq k n) [
  | inl same ↦ rw (same, eq-eqb n n refl, or-true (has_bit w n)) (ap (λ m. m == 1) (bit_at_set_same w64 w n within))
  | inr other ↦ rw (ne_eqb k n other, or-false (has_bit w k))
      (ap (λ m. m == 1) (bit_at_set_other w64 w n within k other))
]

pub low_bit : (w k : ℕ) → k < 32 → has_bit (w % 4294967296) k ≡ has_bit w k
low_bit w k within =
    let split : w ≡ w / 4294967296 * 4294967296 + w % 4294967296 = omega arith in
    ap (λ n. n == 1) (sym (bit_at_cat_low (w / 4294967296) 32 (w % 4294967296) k within)
    ∙ ap (λ n. bit_at n k) (sym split))

pub set_where : (w n k : ℕ) → n < 64 → (on : Bool) → on ≡ true
    → has_bit (bit_or w (1 * 2 ^ n % 18446744073709551616)) k ≡ (has_bit w k || (k == n && on))
set_where w n k within on is = set_bit w n k within
    ∙ ap (λ b. has_bit w k || b) (sym (ap (λ b. (k == n) && b) is ∙ and-true (k == n)))

-- a bit alone
pub one_bit : (n k : ℕ) → n < 64 → has_bit (1 * 2 ^ n % 18446744073709551616) k ≡ (k == n)
one_bit n k within =
    let m = 1 * 2 ^ n % 18446744073709551616 in
    let nothing : has_bit (bit_or 0 m) k ≡ has_bit m k = or_bit 0 m k ∙ ap (λ b. b || has_bit m k) (no_bit k) in
    sym nothing ∙ set_bit 0 n k within ∙ ap (λ b. b || (k == n)) (no_bit k)

-- no bits above
pub bit_above : (w n k : ℕ) → w < 2 ^ n → n ≤ k → has_bit w k ≡ false
bit_above w n k fits above = ap (λ m. m == 1) (bit_at_above w n k fits above)

pub mod_bit : (w k : ℕ) → k < 64 → has_bit (w % 18446744073709551616) k ≡ has_bit w k
mod_bit w k within =
    let split : w ≡ w / 18446744073709551616 * 18446744073709551616 + w % 18446744073709551616 = omega arith in
    ap (λ n. n == 1) (sym (bit_at_cat_low (w / 18446744073709551616) 64 (w % 18446744073709551616) k within)
    ∙ ap (λ n. bit_at n k) (sym split))
