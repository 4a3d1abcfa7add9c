-- Digits one by one.
use Rattle.std.specs.Prelude.{ℕ, ◌+◌, ◌*◌, nat_lt, nat_le, Option, Some, None, if◌then◌else◌}
use Rattle.std.specs.Char.{digit_value}

-- the number with one digit more, where it is a digit of the radix and the number isn't above the limit
abbrev pub more_digits : ℕ → ℕ → ℕ → ℕ → Option ℕ
more_digits radix limit value digit =
    let more = value * radix + digit_value digit in
    if nat_lt (digit_value digit) radix then (if nat_le more limit then Some more else None) else None
