-- What each function of a micro-operation gives, on whole numbers (Intel SDM volume 2). Each cuts its inputs to the width
-- itself, so that it gives a number of the width, or a bit, whatever comes.
use Rattle.std.specs.Prelude.{ℕ, ◌+◌, ◌-◌, ◌*◌, ◌/◌, ◌%◌, ◌^◌, ◌==◌, nat_lt, Bool, if◌then◌else◌, count_ones, bit_and, bit_or, bit_xor}
use Rattle.std.specs.Int.{w64, trailing_zeros, leading_zeros}
use Rattle.asm_core.specs.declared.inst.Width.{Width}
use Rattle.asm_core.specs.declared.micro_op.Function.{Function}

-- how many bits an operand of the width has, and how many values
abbrev pub bits_of : Width → ℕ
bits_of Width.B = 8
bits_of Width.W = 16
bits_of Width.L = 32
bits_of Width.Q = 64

abbrev pub modulus_of : Width → ℕ
modulus_of Width.B = 256
modulus_of Width.W = 65536
modulus_of Width.L = 4294967296
modulus_of Width.Q = 18446744073709551616

abbrev pub bit : Bool → ℕ
bit b = if b then 1 else 0

-- 1 where the bits differ
abbrev pub differ : ℕ → ℕ → ℕ
differ a b = (a + b) % 2

-- the top bit of a number below m
abbrev pub sign_of : ℕ → ℕ → ℕ
sign_of m x = x % m / (m / 2)

-- ---- sums and differences, with a carry or borrow z

abbrev pub sum_of : ℕ → ℕ → ℕ → ℕ → ℕ
sum_of m x y z = (x % m + y % m + z % 2) % m

abbrev pub carry_of : ℕ → ℕ → ℕ → ℕ → ℕ
carry_of m x y z = (x % m + y % m + z % 2) / m

-- a sum doesn't fit where its sign is neither that of x nor that of y
abbrev pub sum_overflow_of : ℕ → ℕ → ℕ → ℕ → ℕ
sum_overflow_of m x y z = differ (sign_of m x) (sign_of m (sum_of m x y z)) * differ (sign_of m y) (sign_of m (sum_of m x y z))

abbrev pub difference_of : ℕ → ℕ → ℕ → ℕ → ℕ
difference_of m x y z = (2 * m + x % m - y % m - z % 2) % m

abbrev pub borrow_of : ℕ → ℕ → ℕ → ℕ → ℕ
borrow_of m x y z = bit (nat_lt (x % m) (y % m + z % 2))

-- a difference doesn't fit where x and y have different signs and its own isn't that of x
abbrev pub difference_overflow_of : ℕ → ℕ → ℕ → ℕ → ℕ
difference_overflow_of m x y z = differ (sign_of m x) (sign_of m y) * differ (sign_of m x) (sign_of m (difference_of m x y z))

-- ---- products and quotients

-- a signed number below m as one below its square
abbrev pub extended : ℕ → ℕ → ℕ
extended m x = x % m + sign_of m x * (m * m - m)

-- the number with the halves high and low
abbrev pub dividend_of : ℕ → ℕ → ℕ → ℕ
dividend_of m high low = high % m * m + low % m

-- a signed number's size without its sign, and a size with the sign
abbrev pub magnitude_of : ℕ → ℕ → ℕ
magnitude_of m x = if sign_of m x == 0 then x % m else m - x % m

abbrev pub with_sign : ℕ → ℕ → ℕ → ℕ
with_sign m sign size = if sign == 0 then size % m else (m - size % m) % m

-- the size of the signed dividend, whose sign is that of its high half
abbrev pub dividend_size : ℕ → ℕ → ℕ → ℕ
dividend_size m high low = if sign_of m high == 0 then dividend_of m high low else m * m - dividend_of m high low

abbrev pub signed_quotient_size : ℕ → ℕ → ℕ → ℕ → ℕ
signed_quotient_size m x y z = dividend_size m x y / magnitude_of m z

-- ---- shifts

abbrev pub shift_count : ℕ → ℕ
shift_count x = x % 32

-- a signed number with 32 more bits above
abbrev pub extended_by_32 : ℕ → ℕ → ℕ
extended_by_32 m x = x % m + sign_of m x * (m * 2 ^ 32 - m)

-- ---- bits

-- bit number k of x, and the number that it adds
abbrev pub bit_of : ℕ → ℕ → ℕ
bit_of x k = x / 2 ^ k % 2

-- ---- all of them

abbrev pub value_of : Function → Width → ℕ → ℕ → ℕ → ℕ
value_of Function.Copy w x y z = x
value_of Function.Value w x y z = x
value_of Function.Set w x y z = x
value_of Function.Pick w x y z = if x == 0 then z else y
value_of Function.IsZero w x y z = bit (x % modulus_of w == 0)
value_of Function.IsNonZero w x y z = if x % modulus_of w == 0 then 0 else 1
value_of Function.Sign w x y z = sign_of (modulus_of w) x
value_of Function.Parity w x y z = (count_ones (x % 256) + 1) % 2
value_of Function.Sum w x y z = sum_of (modulus_of w) x y z
value_of Function.Carry w x y z = carry_of (modulus_of w) x y z
value_of Function.AuxiliaryCarry w x y z = carry_of 16 x y z
value_of Function.SumOverflow w x y z = sum_overflow_of (modulus_of w) x y z
value_of Function.Difference w x y z = difference_of (modulus_of w) x y z
value_of Function.Borrow w x y z = borrow_of (modulus_of w) x y z
value_of Function.AuxiliaryBorrow w x y z = borrow_of 16 x y z
value_of Function.DifferenceOverflow w x y z = difference_overflow_of (modulus_of w) x y z
value_of Function.And w x y z = bit_and (x % modulus_of w) (y % modulus_of w)
value_of Function.Or w x y z = bit_or (x % modulus_of w) (y % modulus_of w)
value_of Function.Xor w x y z = bit_xor (x % modulus_of w) (y % modulus_of w)
value_of Function.Not w x y z = modulus_of w - 1 - x % modulus_of w
value_of Function.ProductLow w x y z = x % modulus_of w * (y % modulus_of w) % modulus_of w
value_of Function.ProductHigh w x y z = x % modulus_of w * (y % modulus_of w) / modulus_of w % modulus_of w
value_of Function.SignedProductHigh w x y z = extended (modulus_of w) x * extended (modulus_of w) y / modulus_of w % modulus_of w
value_of Function.Quotient w x y z = if z % modulus_of w == 0 then 0 else dividend_of (modulus_of w) x y / (z % modulus_of w) % modulus_of w
value_of Function.Remainder w x y z = if z % modulus_of w == 0 then 0 else dividend_of (modulus_of w) x y % (z % modulus_of w) % modulus_of w
value_of Function.QuotientOverflow w x y z = if nat_lt (x % modulus_of w) (z % modulus_of w) then 0 else 1
value_of Function.SignedQuotient w x y z =
    if z % modulus_of w == 0 then 0
    else with_sign (modulus_of w) (differ (sign_of (modulus_of w) x) (sign_of (modulus_of w) z)) (signed_quotient_size (modulus_of w) x y z)
value_of Function.SignedRemainder w x y z =
    if z % modulus_of w == 0 then 0
    else with_sign (modulus_of w) (sign_of (modulus_of w) x) (dividend_size (modulus_of w) x y % magnitude_of (modulus_of w) z)
value_of Function.SignedQuotientOverflow w x y z =
    if z % modulus_of w == 0 then 1
    else if nat_lt (signed_quotient_size (modulus_of w) x y z) (modulus_of w / 2 + differ (sign_of (modulus_of w) x) (sign_of (modulus_of w) z)) then 0
    else 1
value_of Function.SignFill w x y z = sign_of (modulus_of w) x * (modulus_of w - 1)
value_of Function.SignFill8 w x y z = sign_of 256 x * (modulus_of w - 1)
value_of Function.SignFill16 w x y z = sign_of 65536 x * (modulus_of w - 1)
value_of Function.Count w x y z = shift_count x
value_of Function.CountIsOne w x y z = bit (shift_count x == 1)
value_of Function.CountBelowWidth w x y z = bit (nat_lt (shift_count x) (bits_of w))
value_of Function.CountTurns w x y z = if shift_count x == 0 then 1 else if shift_count x % bits_of w == 0 then 0 else 1
value_of Function.ShiftLeft w x y z = x % modulus_of w * 2 ^ shift_count y % modulus_of w
value_of Function.ShiftRight w x y z = x % modulus_of w / 2 ^ shift_count y
value_of Function.ShiftArithmeticRight w x y z = extended_by_32 (modulus_of w) x / 2 ^ shift_count y % modulus_of w
value_of Function.OutLeft w x y z = x % modulus_of w * 2 ^ shift_count y / modulus_of w % 2
value_of Function.OutRight w x y z = 2 * (x % modulus_of w) / 2 ^ shift_count y % 2
value_of Function.OutArithmeticRight w x y z = 2 * extended_by_32 (modulus_of w) x / 2 ^ shift_count y % 2
value_of Function.ShiftDoubleLeft w x y z = (x % modulus_of w * 2 ^ shift_count z + y % modulus_of w * 2 ^ shift_count z / modulus_of w) % modulus_of w
value_of Function.ShiftDoubleRight w x y z = dividend_of (modulus_of w) y x / 2 ^ shift_count z % modulus_of w
value_of Function.RotateLeft w x y z =
    (x % modulus_of w * 2 ^ (shift_count y % bits_of w) + x % modulus_of w * 2 ^ (shift_count y % bits_of w) / modulus_of w) % modulus_of w
value_of Function.RotateRight w x y z = dividend_of (modulus_of w) x x / 2 ^ (shift_count y % bits_of w) % modulus_of w
value_of Function.TopBitsDiffer w x y z = differ (sign_of (modulus_of w) x) (sign_of (modulus_of w) (2 * x))
value_of Function.ScanForward w x y z = trailing_zeros w64 (x % modulus_of w)
value_of Function.ScanReverse w x y z = 63 - leading_zeros w64 (x % modulus_of w)
value_of Function.Bit w x y z = bit_of (x % modulus_of w) (y % bits_of w)
value_of Function.BitSet w x y z = bit_or (x % modulus_of w) (2 ^ (y % bits_of w))
value_of Function.BitReset w x y z = x % modulus_of w - 2 ^ (y % bits_of w) * bit_of (x % modulus_of w) (y % bits_of w)
value_of Function.BitComplement w x y z = bit_xor (x % modulus_of w) (2 ^ (y % bits_of w))
value_of Function.IndexStep w x y z = if y % 2 == 0 then (x % 2 ^ 32 + bits_of w / 8) % 2 ^ 32 else (x % 2 ^ 32 + 2 ^ 32 - bits_of w / 8) % 2 ^ 32
value_of Function.CountDown w x y z = (x % 2 ^ 32 + 2 ^ 32 - 1) % 2 ^ 32
value_of Function.Join w x y z = x % 2 ^ 32 + y % 2 ^ 32 * 2 ^ 32
value_of Function.UpperHalf w x y z = x / 2 ^ 32 % 2 ^ 32
