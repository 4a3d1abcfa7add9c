-- Tests of some bit, some place, some pair of places.
use Rattle.std.proofs.Common.{◌≡◌, ◌≢◌, ◌⊎◌, inl, inr, ℕ, ◌+◌, ◌^◌, ◌<◌, ◌≤◌, ◌==◌, ◌&&◌, nat_lt, bit_and, Bool, true, false, not, refl, sym, ap, subst, ◌∙◌, arith}
use Rattle.std.specs.List.{list_any, range_with_len}
use Rattle.std.specs.Int.{w64, trailing_zeros}
use Rattle.std.proofs.lemmas.Bool.{true≢false, false≢true, and_parts, cases_lt, ltb-true, lt-ltb, eq-eqb, ne_eqb}
use Rattle.std.proofs.lemmas.Nat.{and_le_l}
use Rattle.std.proofs.lemmas.Nat.Bits.{bit_at-trailing_zeros}
use Rattle.std.proofs.lemmas.List.Folds.{Any-from_list_any, list_any_at}
use Rattle.std.proofs.lemmas.List.FromFn.{length-range_with_len, get_or-range_with_len}
use Rattle.blk_deps.specs.Ground.{has_bit}
use Rattle.blk_deps.specs.Fits.{some_pair}
use Rattle.blk_deps.proofs.WordLemmas.{has_and, has_none}

-- two answers are equal if each makes the other true
pub same_answers : (a b : Bool) → (a ≡ true → b ≡ true) → (b ≡ true → a ≡ true) → a ≡ b
same_answers true b there back = sym (there refl)
same_answers false true there back = back refl
same_answers false false there back = refl

-- a test of the numbers below n
pub some_below : (test : ℕ → Bool) (n k : ℕ) → k < n → test k ≡ true → list_any test (range_with_len 0 n) ≡ true
some_below test n k lt holds =
    list_any_at test (range_with_len 0 n) k 0 (subst (λ m. k < m) (sym (length-range_with_len 0 n)) lt)
    (ap test (get_or-range_with_len 0 n k 0 lt) ∙ ap test (zero_and k) ∙ holds)
  where
    zero_and : (k : ℕ) → 0 + k ≡ k
    zero_and k = omega arith

pub record Below (test : ℕ → Bool) (n : ℕ) : Type 0 where
  pub number : ℕ
  pub within : number < n
  pub holds : test number ≡ true

pub below_from : (test : ℕ → Bool) (n : ℕ) → list_any test (range_with_len 0 n) ≡ true → Below test n
below_from test n holds =
    let found = Any-from_list_any test (range_with_len 0 n) holds in
    let k = found.0 in
    let lt : k < n = subst (λ m. k < m) (length-range_with_len 0 n) found.2 in
    let is : found.1 ≡ k = sym found.3 ∙ get_or-range_with_len 0 n k found.1 lt ∙ omega arith in
    record { number = k; within = lt; holds = ap test (sym is) ∙ found.4 }

one_is : (a : ℕ) → a ≡ 1 → (a == 1) ≡ true
one_is a e = eq-eqb a 1 e

-- the bits of a word below n, asked at once
pub nonzero_below : (word mask n : ℕ) (test : ℕ → Bool) → word < 2 ^ 64
    → ((b : ℕ) → b < 64 → has_bit mask b ≡ nat_lt b n) → ((b : ℕ) → b < 64 → has_bit word b ≡ test b) → ((b : ℕ) → 64 ≤ b → test b ≡ false)
    → not (bit_and word mask == 0) ≡ list_any test (range_with_len 0 n)
nonzero_below word mask n test fits masks tells past = same_answers _ _ there back
  where
    both : (b : ℕ) → has_bit (bit_and word mask) b ≡ (has_bit word b && has_bit mask b)
    both b = has_and word mask b

    some_bit : bit_and word mask ≢ 0 → list_any test (range_with_len 0 n) ≡ true
    some_bit differs =
        let le = and_le_l word mask in
        let low = bit_at-trailing_zeros w64 (bit_and word mask) (omega arith) (omega (arith, le, fits)) in
        let t = trailing_zeros w64 (bit_and word mask) in
        let parts = and_parts _ _ (sym (both t) ∙ one_is _ low.1) in
        let lt = ltb-true t n (sym (masks t low.0) ∙ parts.1) in
        some_below test n t lt (sym (tells t low.0) ∙ parts.0)

    there : not (bit_and word mask == 0) ≡ true → list_any test (range_with_len 0 n) ≡ true
    there nonzero = some_bit (λ e. absurd (false≢true (sym (ap (λ a. not (a == 0)) e) ∙ nonzero)))

    at_bit : (k : ℕ) → k < n → test k ≡ true → (k < 64) ⊎ (64 ≤ k) → bit_and word mask ≡ 0 → ⊥
    at_bit k lt holds (inl small) zero_is =
        false≢true (sym (has_none k) ∙ ap (λ a. has_bit a k) (sym zero_is) ∙ both k
        ∙ (rw (tells k small ∙ holds, masks k small ∙ lt-ltb k n lt) refl))
    at_bit k lt holds (inr big) zero_is = true≢false (sym holds ∙ past k big)

    back : list_any test (range_with_len 0 n) ≡ true → not (bit_and word mask == 0) ≡ true
    back holds =
        let found = below_from test n holds in
        ap not (ne_eqb (bit_and word mask) 0 (at_bit found.number found.within found.holds (cases_lt found.number 64)))

-- ---- pairs of places

pub some_pair_is : (test : ℕ → ℕ → Bool)
    → some_pair test ≡ list_any (λ p. list_any (λ d. test d p) (range_with_len 0 37)) (range_with_len 0 37)
unfolding some_pair
some_pair_is test = refl

pub some_pair_at : (test : ℕ → ℕ → Bool) (d p : ℕ) → d < 37 → p < 37 → test d p ≡ true → some_pair test ≡ true
some_pair_at test d p first second holds = some_pair_is test
    ∙ some_below (λ p. list_any (λ d. test d p) (range_with_len 0 37)) 37 p second (some_below (λ d. test d p) 37 d first holds)

pub record Paired (test : ℕ → ℕ → Bool) : Type 0 where
  pub first : ℕ
  pub second : ℕ
  pub holds : test first second ≡ true

pub paired_from : (test : ℕ → ℕ → Bool) → some_pair test ≡ true → Paired test
paired_from test holds =
    let second = below_from (λ p. list_any (λ d. test d p) (range_with_len 0 37)) 37 (sym (some_pair_is test) ∙ holds) in
    let first = below_from (λ d. test d second.number) 37 second.holds in
    record { first = first.number; second = second.number; holds = first.holds }
