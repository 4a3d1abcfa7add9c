-- The suffixes of integer constants (C11 6.4.4.1).
use Rattle.std.specs.Prelude.{ℕ, Bool, true, false, List, [], ◌||◌, nat_eq, if◌then◌else◌, Option, Some, None, codes}
use Rattle.std.specs.Cmp.Lexicographic.{pointwise}
use Rattle.c_literals.specs.declared.suffix.Suffix.{Suffix}
use Rattle.c_literals.specs.declared.suffix.Rank.{Rank}
use Rattle.c_literals.specs.declared.suffix.Rank.TheVariants.{Int, Long, LongLong}

-- int and long have 4 bytes (System V ABI, i386)
abbrev pub is_short : Rank → Bool
is_short Int = true
is_short Long = true
is_short LongLong = false

abbrev pub same : List ℕ → List ℕ → Bool
same s word = pointwise nat_eq s word

abbrev pub is_unsigned : List ℕ → Bool
is_unsigned s = same s (codes "u") || same s (codes "U")

abbrev pub is_long : List ℕ → Bool
is_long s = same s (codes "l") || same s (codes "L")

-- the two letters are alike
abbrev pub is_long_long : List ℕ → Bool
is_long_long s = same s (codes "ll") || same s (codes "LL")

-- an unsigned and a long suffix, in either order
abbrev pub is_unsigned_long : List ℕ → Bool
is_unsigned_long s = same s (codes "ul") || same s (codes "uL") || same s (codes "Ul") || same s (codes "UL")
    || same s (codes "lu") || same s (codes "lU") || same s (codes "Lu") || same s (codes "LU")

abbrev pub is_unsigned_long_long : List ℕ → Bool
is_unsigned_long_long s = same s (codes "ull") || same s (codes "uLL") || same s (codes "Ull") || same s (codes "ULL")
    || same s (codes "llu") || same s (codes "llU") || same s (codes "LLu") || same s (codes "LLU")

unfoldable pub suffix_of : List ℕ → Option Suffix
suffix_of s =
    if same s [] then Some (record { unsigned = false; rank = Int })
    else if is_unsigned s then Some (record { unsigned = true; rank = Int })
    else if is_long s then Some (record { unsigned = false; rank = Long })
    else if is_unsigned_long s then Some (record { unsigned = true; rank = Long })
    else if is_long_long s then Some (record { unsigned = false; rank = LongLong })
    else if is_unsigned_long_long s then Some (record { unsigned = true; rank = LongLong })
    else None
