-- Digits, and the numbers that they stand for (C11 6.4.4.1).
use Rattle.std.specs.Prelude.{ℕ, Bool, true, false, List, [], ◌∷◌, ◌+◌, ◌-◌, ◌*◌, ◌^◌, ◌||◌, ◌&&◌, nat_lt, nat_le, if◌then◌else◌, Option, Some, None, length}
use Rattle.c_literals.specs.declared.base.Base.{Base}
use Rattle.c_literals.specs.declared.base.Base.TheVariants.{Octal, Decimal, Hexadecimal}

abbrev pub radix : Base → ℕ
radix Octal = 8
radix Decimal = 10
radix Hexadecimal = 16

abbrev pub is_decimal : Base → Bool
is_decimal Decimal = true
is_decimal Octal = false
is_decimal Hexadecimal = false

-- `0` to `7`; `0` to `9`; these, `A` to `F` and `a` to `f`
unfoldable pub is_digit : Base → ℕ → Bool
is_digit Octal b = nat_le 48 b && nat_le b 55
is_digit Decimal b = nat_le 48 b && nat_le b 57
is_digit Hexadecimal b = (nat_le 48 b && nat_le b 57) || (nat_le 65 b && nat_le b 70) || (nat_le 97 b && nat_le b 102)

-- the value of a digit, of whatever base
abbrev pub digit_value : ℕ → ℕ
digit_value b = if nat_le b 57 then b - 48 else if nat_le b 70 then b - 55 else b - 87

-- The number that digits stand for: each counts for its value times the base's power by its place from the right.
unfoldable pub number : Base → List ℕ → ℕ
number base [] = 0
number base (d ∷ ds) = digit_value d * radix base ^ length ds + number base ds

-- the number, if it has no more than so many bits
abbrev pub fitting : ℕ → ℕ → Option ℕ
fitting bits n = if nat_lt n (2 ^ bits) then Some n else None
