-- The bits of a word lie from its lowest up to its highest.
use Rattle.std.proofs.Common.{◌≡◌, inl, inr, ℕ, suc, ◌-◌, ◌^◌, ◌<◌, ◌≤◌, ◌==◌, ◌&&◌, not, bit_and, true, false, sym, ap, ◌∙◌, arith}
use Rattle.std.specs.Int.{bit_at, trailing_zeros, w64}
use Rattle.std.proofs.lemmas.Bool.{cases_eq, cases_lt, eq-eqb, ne_eqb}
use Rattle.std.proofs.lemmas.Nat.{leading_top, and_le_l}
use Rattle.std.proofs.lemmas.Nat.Bits.{bit_at-zero, bit_at-trailing_zeros, bit_at_above}
use lib.Count.{count_leading_zeros, count_trailing_zeros}
use Rattle.blk_deps.specs.Ground.{has_bit}
use Rattle.blk_deps.specs.Ruling.{have_common}
use Rattle.blk_deps.proofs.AnyLaws.{any_at, none_below}
use Rattle.blk_deps.proofs.WordLemmas.{has_and, has_none}

is_one : (n : ℕ) → (n == 1) ≡ true → n ≡ 1
is_one n is = grind arith

pub from_lowest : (w p : ℕ) → w < 2 ^ 64 → has_bit w p ≡ true → count_trailing_zeros 64 w ≤ p
from_lowest w p fits is = elim (cases_eq w 0) [
  | inl none ↦ absurd (let one = is_one _ is in let no_one = ap (λ n. bit_at n p) none ∙ bit_at-zero p in
      omega (arith, one, no_one))
  | inr some ↦ elim (cases_lt p (count_trailing_zeros 64 w)) [
    | inl before ↦ let positive : 0 < w = omega arith in
        absurd (let one = is_one _ is in let no_one = (bit_at-trailing_zeros w64 w positive fits).2 p before in
        omega (arith, one, no_one))
    | inr after ↦ after
  ]
]

pub below_highest : (w p : ℕ) → w < 2 ^ 64 → has_bit w p ≡ true → p < 64 - count_leading_zeros 64 w
below_highest w p fits is = elim (cases_eq w 0) [
  | inl none ↦ absurd (let one = is_one _ is in let no_one = ap (λ n. bit_at n p) none ∙ bit_at-zero p in
      omega (arith, one, no_one))
  | inr some ↦ let positive : 0 < w = omega arith in let top = leading_top 64 w positive fits in
      elim (cases_lt p (64 - count_leading_zeros 64 w)) [
        | inl before ↦ before
        | inr after ↦ let above : suc top.0 ≤ p = omega (arith, top.1) in
            absurd (let one = is_one _ is in let no_one = bit_at_above w (suc top.0) p top.3 above in
            omega (arith, one, no_one))
      ]
]

-- words that have a bit in common, and words that have none
pub common_bit : (a b : ℕ) → bit_and a b < 2 ^ 64 → 0 < bit_and a b → have_common a b ≡ true
unfolding have_common
common_bit a b fits some =
    let lowest = bit_at-trailing_zeros w64 (bit_and a b) some fits in
    let is : (has_bit a (trailing_zeros w64 (bit_and a b)) && has_bit b (trailing_zeros w64 (bit_and a b))) ≡ true =
    sym (has_and a b (trailing_zeros w64 (bit_and a b))) ∙ ap (λ n. n == 1) lowest.1 in
    any_at (λ n. has_bit a n && has_bit b n) 64 (trailing_zeros w64 (bit_and a b)) lowest.0 is

pub no_common_bit : (a b : ℕ) → bit_and a b ≡ 0 → have_common a b ≡ false
unfolding have_common
no_common_bit a b none = none_below (λ n. has_bit a n && has_bit b n) 64 each
  where
    each : (n : ℕ) → n < 64 → (has_bit a n && has_bit b n) ≡ false
    each n lt = sym (has_and a b n) ∙ ap (λ w. has_bit w n) none ∙ has_none n

pub common : (a b : ℕ) → a < 2 ^ 64 → not (bit_and a b == 0) ≡ have_common a b
common a b fits = elim (cases_eq (bit_and a b) 0) [
  | inl none ↦ rw (eq-eqb (bit_and a b) 0 none) (sym (no_common_bit a b none))
  | inr some ↦ rw (ne_eqb (bit_and a b) 0 some) (sym (common_bit a b (let le = and_le_l a b in
      omega (arith, le)) (omega arith)))
]
