-- What cutting a number to a type leaves.
use Rattle.std.proofs.Common.{◌≡◌, ℕ, ◌-◌, ◌^◌, ◌/◌, ◌%◌, ◌<◌, ◌≤◌, Bool, true, false, refl, ap, sym, ◌∙◌, arith, nat_le}
use Rattle.std.proofs.lemmas.Int.{ints}
use Rattle.std.proofs.lemmas.Bool.Decides.{nat_tests}
use Rattle.std.specs.Prelude.{ℤ, pos, negsuc, neg_ℤ, ◌-ℤ◌, ◌≤ℤ◌, ◌<ℤ◌, unsigned_abs, ◌==◌, ◌&&◌, if◌then◌else◌}
use Rattle.std.specs.Int.{int_rem_euclid}
use Rattle.c_values.specs.Numbers.{bit_count, centered, cut, value_count, IsCut, IsInRange}

counts_cases : (P : ℕ → Type 0) → P 256 → P 65536 → P 4294967296 → P 18446744073709551616 → (a b c : Bool)
    → P (if a then 256 else if b then 65536 else if c then 4294967296 else 18446744073709551616)
counts_cases P p q r s true b c = p
counts_cases P p q r s false true c = q
counts_cases P p q r s false false true = r
counts_cases P p q r s false false false = s

count_cases : (P : ℕ → Type 0) → P 256 → P 65536 → P 4294967296 → P 18446744073709551616 → (size : ℕ) → P (value_count size)
count_cases P p q r s size = counts_cases P p q r s (size == 1) (size == 2) (size == 4)

below_zero : (n m : ℕ) → n < m → pos n -ℤ pos m ≡ negsuc (m - 1 - n)
below_zero n m lt = omega (arith, ints)

rest : (m : ℕ) (z : ℤ) → int_rem_euclid z (pos m) ≡ pos (unsigned_abs (int_rem_euclid z (pos m)))
rest m (pos n) = refl
rest m (negsuc n) = refl

-- what is asked of a count of values
record IsEven (m : ℕ) : Type 0 where
  rest_of : (n : ℕ) → n < m → n % m ≡ n
  rest_below : (n : ℕ) → n < m → m - 1 - (m - 1 - n) % m ≡ n
  rest_less : (z : ℤ) → unsigned_abs (int_rem_euclid z (pos m)) < m
  low : (n : ℕ) → n < m → m / 2 ≤ n → neg_ℤ (pos (m / 2)) ≤ℤ (pos n -ℤ pos m)
  high : (n : ℕ) → n < m → m / 2 ≤ n → (pos n -ℤ pos m) <ℤ pos (m / 2)

rem_less : (m : ℕ) → ((n : ℕ) → n % m < m) → ((n : ℕ) → m - 1 - n % m < m) → (z : ℤ) → unsigned_abs (int_rem_euclid z (pos m)) < m
rem_less m p q (pos n) = p n
rem_less m p q (negsuc n) = q n

byte : IsEven 256
byte = record {
  rest_of = λ n lt. omega arith;
  rest_below = λ n lt. omega arith;
  rest_less = rem_less 256 (λ n. omega arith) (λ n. omega arith);
  low = λ n lt le. omega (arith, ints);
  high = λ n lt le. omega (arith, ints);
}

two_bytes : IsEven 65536
two_bytes = record {
  rest_of = λ n lt. omega arith;
  rest_below = λ n lt. omega arith;
  rest_less = rem_less 65536 (λ n. omega arith) (λ n. omega arith);
  low = λ n lt le. omega (arith, ints);
  high = λ n lt le. omega (arith, ints);
}

four_bytes : IsEven 4294967296
four_bytes = record {
  rest_of = λ n lt. omega arith;
  rest_below = λ n lt. omega arith;
  rest_less = rem_less 4294967296 (λ n. omega arith) (λ n. omega arith);
  low = λ n lt le. omega (arith, ints);
  high = λ n lt le. omega (arith, ints);
}

eight_bytes : IsEven 18446744073709551616
eight_bytes = record {
  rest_of = λ n lt. omega arith;
  rest_below = λ n lt. omega arith;
  rest_less = rem_less 18446744073709551616 (λ n. omega arith) (λ n. omega arith);
  low = λ n lt le. omega (arith, ints);
  high = λ n lt le. omega (arith, ints);
}

is_even : (size : ℕ) → IsEven (value_count size)
is_even = count_cases IsEven byte two_bytes four_bytes eight_bytes

-- where the test of `centered` is known
rest_at : (m : ℕ) → IsEven m → (b : Bool) (n : ℕ) → n < m → int_rem_euclid (if b then pos n -ℤ pos m else pos n) (pos m) ≡ pos n
rest_at m even true n lt = ap (λ z. int_rem_euclid z (pos m)) (below_zero n m lt) ∙ ap pos (even.rest_below n lt)
rest_at m even false n lt = ap pos (even.rest_of n lt)

same_rest : (m : ℕ) → IsEven m → (signed : Bool) (z : ℤ)
    → int_rem_euclid (centered signed m (unsigned_abs (int_rem_euclid z (pos m)))) (pos m) ≡ int_rem_euclid z (pos m)
same_rest m even signed z =
    let n = unsigned_abs (int_rem_euclid z (pos m)) in
    rest_at m even (signed && nat_le (m / 2) n) n (even.rest_less z) ∙ sym (rest m z)

signed_range : (m : ℕ) → IsEven m → (b : Bool) (n : ℕ) → n < m → nat_le (m / 2) n ≡ b
    → let r : ℤ = if b then pos n -ℤ pos m else pos n in (neg_ℤ (pos (m / 2)) ≤ℤ r) × (r <ℤ pos (m / 2))
signed_range m even true n lt e = let le : m / 2 ≤ n = grind (arith, nat_tests) in (even.low n lt le, even.high n lt le)
signed_range m even false n lt e = let less : n < m / 2 = grind (arith, nat_tests) in (omega (arith, ints), omega (arith, ints))

in_range : (size : ℕ) → IsEven (value_count size) → (signed : Bool) (n : ℕ) → n < value_count size → IsInRange size signed (centered signed (value_count size) n)
in_range size even true n lt = signed_range (value_count size) even (nat_le (value_count size / 2) n) n lt refl
in_range size even false n lt = (omega (arith, ints), omega (arith, ints))

pub IsCut-cut : (size : ℕ) (signed : Bool) (z : ℤ) → IsCut size signed z (cut size signed z)
unfolding cut
IsCut-cut size signed z = record {
  in_range = in_range size (is_even size) signed (unsigned_abs (int_rem_euclid z (pos (value_count size)))) ((is_even size).rest_less z);
  same_rest = same_rest (value_count size) (is_even size) signed z;
}

-- the counts are powers of 2
powers : (a b c : Bool)
    → (if a then 256 else if b then 65536 else if c then 4294967296 else 18446744073709551616) ≡ 2 ^ (if a then 8 else if b then 16 else if c then 32 else 64)
powers true b c = refl
powers false true c = refl
powers false false true = refl
powers false false false = refl

pub value_count-bits : (size : ℕ) → value_count size ≡ 2 ^ bit_count size
value_count-bits size = powers (size == 1) (size == 2) (size == 4)

pub ruleset laws = (IsCut-cut)
