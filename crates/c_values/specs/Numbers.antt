-- Numbers in C's integer types.
use Rattle.std.specs.Prelude.{ℕ, ◌/◌, ◌==◌, Bool, true, false, ℤ, pos, neg_ℤ, ◌≡◌, ◌≤ℤ◌, ◌<ℤ◌, ◌-ℤ◌, nat_le, unsigned_abs, ◌&&◌, if◌then◌else◌}
use Rattle.std.specs.Int.{int_rem_euclid}
use Rattle.std.specs.Ordering.{int_eq}

abbrev pub is_zero : ℤ → Bool
is_zero z = int_eq z (pos 0)

-- 1 where it holds and 0 where not
abbrev pub truth : Bool → ℤ
truth true = pos 1
truth false = pos 0

-- how many bits an integer of so many bytes has, for C's sizes 1, 2, 4 and 8
abbrev pub bit_count : ℕ → ℕ
bit_count size = if size == 1 then 8 else if size == 2 then 16 else if size == 4 then 32 else 64

-- how many values an integer of so many bytes has: 2 ^ bit_count size
abbrev pub value_count : ℕ → ℕ
value_count size = if size == 1 then 256 else if size == 2 then 65536 else if size == 4 then 4294967296 else 18446744073709551616

-- the number that stands for r in a range of so many numbers: from 0 on, or with as many below 0 as from 0 on
abbrev pub centered : Bool → ℕ → ℕ → ℤ
centered signed count r = if signed && nat_le (count / 2) r then pos r -ℤ pos count else pos r

-- The number that an integer of so many bytes holds in place of z (C11 6.3.1.3, and GCC's modulo for signed types).
unfoldable pub cut : ℕ → Bool → ℤ → ℤ
cut size signed z = centered signed (value_count size) (unsigned_abs (int_rem_euclid z (pos (value_count size))))

-- ---- what cutting is

-- with a sign as many numbers below 0 as from 0 on (C11 6.2.6.2, 1 and 2, in two's complement)
abbrev pub IsInRange : ℕ → Bool → ℤ → Type 0
IsInRange size true r = (neg_ℤ (pos (value_count size / 2)) ≤ℤ r) × (r <ℤ pos (value_count size / 2))
IsInRange size false r = (pos 0 ≤ℤ r) × (r <ℤ pos (value_count size))

-- the number of the type's range that leaves the same rest as z
pub record IsCut (size : ℕ) (signed : Bool) (z r : ℤ) : Type 0 where
  pub in_range : IsInRange size signed r
  pub same_rest : int_rem_euclid r (pos (value_count size)) ≡ int_rem_euclid z (pos (value_count size))
