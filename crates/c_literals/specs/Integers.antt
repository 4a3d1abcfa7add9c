-- Integer constants (C11 6.4.4.1), for i386: int and long have 4 bytes, long long has 8 (System V ABI).
use Rattle.std.specs.Prelude.{◌≡◌, ◌<◌, ℕ, Bool, true, false, List, [], ◌∷◌, ◌-◌, ◌*◌, ◌^◌, ◌==◌, ◌||◌, ◌⊎◌, nat_lt, if◌then◌else◌, Option, Some, None, length, drop, take_while, option_and_then}
use Rattle.c_literals.specs.declared.base.Base.{Base}
use Rattle.c_literals.specs.declared.base.Base.TheVariants.{Octal, Decimal, Hexadecimal}
use Rattle.c_literals.specs.declared.integer.IntegerConstant.{IntegerConstant}
use Rattle.c_literals.specs.declared.suffix.Suffix.{Suffix}
use Rattle.c_literals.specs.declared.suffix.Rank.{Rank}
use Rattle.c_literals.specs.declared.suffix.Rank.TheVariants.{Int, Long, LongLong}
use Rattle.c_literals.specs.Digits.{is_decimal, is_digit, number}
use Rattle.c_literals.specs.Suffixes.{suffix_of}

-- an integer type: its size in bytes, and whether it is signed
pub record IntegerType : Type 0 where
  pub size : ℕ
  pub signed : Bool

abbrev pub int : IntegerType
int = record { size = 4; signed = true }

abbrev pub unsigned_int : IntegerType
unsigned_int = record { size = 4; signed = false }

abbrev pub long : IntegerType
long = record { size = 4; signed = true }

abbrev pub unsigned_long : IntegerType
unsigned_long = record { size = 4; signed = false }

abbrev pub long_long : IntegerType
long_long = record { size = 8; signed = true }

abbrev pub unsigned_long_long : IntegerType
unsigned_long_long = record { size = 8; signed = false }

-- how many values from 0 on the type has: 2 to the power of its bits, the sign's left out
abbrev pub value_bits : ℕ → Bool → ℕ
value_bits size true = size * 8 - 1
value_bits size false = size * 8

-- C11's table of the types among which a constant's is chosen: with an unsigned suffix, and without one for decimal
-- constants and for others
abbrev pub unsigned_types : Rank → List IntegerType
unsigned_types Int = unsigned_int ∷ unsigned_long ∷ unsigned_long_long ∷ []
unsigned_types Long = unsigned_long ∷ unsigned_long_long ∷ []
unsigned_types LongLong = unsigned_long_long ∷ []

abbrev pub decimal_types : Rank → List IntegerType
decimal_types Int = int ∷ long ∷ long_long ∷ []
decimal_types Long = long ∷ long_long ∷ []
decimal_types LongLong = long_long ∷ []

abbrev pub other_types : Rank → List IntegerType
other_types Int = int ∷ unsigned_int ∷ long ∷ unsigned_long ∷ long_long ∷ unsigned_long_long ∷ []
other_types Long = long ∷ unsigned_long ∷ long_long ∷ unsigned_long_long ∷ []
other_types LongLong = long_long ∷ unsigned_long_long ∷ []

abbrev pub types_of : Base → Suffix → List IntegerType
types_of base s = if s.unsigned then unsigned_types s.rank else if is_decimal base then decimal_types s.rank else other_types s.rank

abbrev pub constant : ℕ → Bool → ℕ → IntegerConstant
constant size signed value = record { size = size; signed = signed; value = value }

-- the constant of this value, of the first of the types in which it fits
unfoldable pub first_fit : ℕ → List IntegerType → Option IntegerConstant
first_fit value [] = None
first_fit value (t ∷ ts) =
    if nat_lt value (2 ^ value_bits t.size t.signed) then Some (constant t.size t.signed value)
    else first_fit value ts

-- A constant that begins with `0x` is hexadecimal, another that begins with `0` is octal.
abbrev pub base_of : List ℕ → Base
base_of [] = Decimal
base_of (a ∷ []) = if a == 48 then Octal else Decimal
base_of (a ∷ b ∷ bs) = if a == 48 then (if (b == 120) || (b == 88) then Hexadecimal else Octal) else Decimal

abbrev pub behind_prefix : Base → List ℕ → List ℕ
behind_prefix Hexadecimal bs = drop 2 bs
behind_prefix Octal bs = bs
behind_prefix Decimal bs = bs

-- the constant without its `0x`
abbrev pub body_of : List ℕ → List ℕ
body_of bs = behind_prefix (base_of bs) bs

-- The constant of the digits, one at least, and the suffix behind them.
abbrev pub constant_of : Base → List ℕ → List ℕ → Option IntegerConstant
constant_of base [] suffix = None
constant_of base (d ∷ ds) suffix = option_and_then (λ s. first_fit (number base (d ∷ ds)) (types_of base s)) (suffix_of suffix)

-- the constant in this base: its digits go as far as they can
abbrev pub constant_in : Base → List ℕ → Option IntegerConstant
constant_in base body = let digits = take_while (is_digit base) body in constant_of base digits (drop (length digits) body)

unfoldable pub integer_constant : List ℕ → Option IntegerConstant
integer_constant bs = constant_in (base_of bs) (body_of bs)

-- The type has 4 or 8 bytes, and the value fits in it.
pub record IsOfItsType (c : IntegerConstant) : Type 0 where
  pub sized : (c.size ≡ 4) ⊎ (c.size ≡ 8)
  pub fits : c.value < 2 ^ value_bits c.size c.signed
