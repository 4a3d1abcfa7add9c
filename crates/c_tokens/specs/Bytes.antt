-- The classes of bytes that the grammar of tokens speaks of (C11 6.4; the bytes from 128 on and `$` in names are GCC's).
use Rattle.std.specs.Prelude.{ℕ, Bool, List, ◌+◌, ◌==◌, nat_le, ◌||◌, ◌&&◌, slice_index}

-- blank, tab, newline, vertical tab, form feed, carriage return
abbrev pub is_space : ℕ → Bool
is_space b = (b == 32) || (nat_le 9 b && nat_le b 13)

-- blank and tab, which may stand before the `#` of a directive
abbrev pub is_blank : ℕ → Bool
is_blank b = (b == 32) || (b == 9)

abbrev pub is_digit : ℕ → Bool
is_digit b = nat_le 48 b && nat_le b 57

abbrev pub is_letter : ℕ → Bool
is_letter b = (nat_le 65 b && nat_le b 90) || (nat_le 97 b && nat_le b 122)

-- a letter, `_`, `$`, or a byte from 128 on
abbrev pub begins_name : ℕ → Bool
begins_name b = is_letter b || (b == 95) || (b == 36) || nat_le 128 b

abbrev pub continues_name : ℕ → Bool
continues_name b = begins_name b || is_digit b

-- a letter, a digit, `_` or `.`
abbrev pub continues_number : ℕ → Bool
continues_number b = is_letter b || is_digit b || (b == 95) || (b == 46)

-- `e E p P`, after which a sign belongs to the number
abbrev pub is_exponent : ℕ → Bool
is_exponent b = (b == 101) || (b == 69) || (b == 112) || (b == 80)

abbrev pub is_sign : ℕ → Bool
is_sign b = (b == 43) || (b == 45)

-- `"` and `'`
abbrev pub is_quote : ℕ → Bool
is_quote b = (b == 34) || (b == 39)

-- The two bytes stand at i, one after the other. (`slice_index` is 0 past the end, and no test asks for 0.)
abbrev pub is_pair_at : List ℕ → ℕ → ℕ → ℕ → Bool
is_pair_at text i first second = (slice_index text i == first) && (slice_index text (i + 1) == second)
