-- Escapes, and bytes that stand as themselves (C11 6.4.4.4; `\e` is GCC's).
use Rattle.std.specs.Prelude.{ℕ, Bool, true, List, ◌+◌, ◌==◌, ◌||◌, ◌&&◌, nat_lt, nat_le, if◌then◌else◌, Option, Some, None, drop, min, slice_index, slice_range}
use Rattle.std.specs.List.{prefix_len}
use Rattle.c_literals.specs.declared.base.Base.{Base}
use Rattle.c_literals.specs.declared.base.Base.TheVariants.{Octal, Hexadecimal}
use Rattle.c_literals.specs.declared.escape.Read.{Read}
use Rattle.c_literals.specs.declared.plain.Plain.{Plain}
use Rattle.c_literals.specs.declared.plain.Plain.TheVariants.{Every, Printable}
use Rattle.c_literals.specs.Digits.{is_digit, number}

-- what may stand as itself: every byte, or printable ASCII, tab and newline alone
abbrev pub is_plain : Plain → ℕ → Bool
is_plain Every b = true
is_plain Printable b = (nat_le 32 b && nat_le b 126) || (b == 9) || (b == 10)

-- `\' \" \? \\ \a \b \e \f \n \r \t \v`, by the byte behind the backslash
unfoldable pub simple_escape : ℕ → Option ℕ
simple_escape b =
    if (b == 39) || (b == 34) || (b == 63) || (b == 92) then Some b
    else if b == 97 then Some 7
    else if b == 98 then Some 8
    else if b == 101 then Some 27
    else if b == 102 then Some 12
    else if b == 110 then Some 10
    else if b == 114 then Some 13
    else if b == 116 then Some 9
    else if b == 118 then Some 11
    else None

-- the end of the digits from an index on
abbrev pub digits_end : Base → List ℕ → ℕ → ℕ
digits_end base bs i = i + prefix_len (is_digit base) (drop i bs)

-- the byte that the digits from one index up to another stand for: there is one at least, and 255 is the greatest
abbrev pub numbered : List ℕ → Base → ℕ → ℕ → Option Read
numbered bs base from end =
    if nat_lt from end && nat_le (number base (slice_range bs from end)) 255
    then Some (record { byte = number base (slice_range bs from end); end = end })
    else None

abbrev pub simple_read : ℕ → Option ℕ → Option Read
simple_read i None = None
simple_read i (Some b) = Some (record { byte = b; end = i + 1 })

-- An escape, by what stands behind its backslash: one to three octal digits, `x` and as many hexadecimal digits as stand
-- there, or a letter or mark. Past the end stands 0, which is no digit and begins no escape.
unfoldable pub escape_at : List ℕ → ℕ → Option Read
escape_at bs i =
    if is_digit Octal (slice_index bs i) then numbered bs Octal i (min (digits_end Octal bs i) (i + 3))
    else if slice_index bs i == 120 then numbered bs Hexadecimal (i + 1) (digits_end Hexadecimal bs (i + 1))
    else simple_read i (simple_escape (slice_index bs i))

-- the byte at an index as itself or by an escape, and the index behind it; none where it is in no form of the tables
unfoldable pub read_at : Plain → List ℕ → ℕ → Option Read
read_at plain bs i =
    if slice_index bs i == 92 then escape_at bs (i + 1)
    else if is_plain plain (slice_index bs i) then Some (record { byte = slice_index bs i; end = i + 1 })
    else None
