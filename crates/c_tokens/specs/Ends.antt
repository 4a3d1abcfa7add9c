-- Where a token, a comment or a line ends: the offset of the first byte that is no part of it.
use Rattle.std.specs.Prelude.{ℕ, Bool, true, false, List, [], ◌∷◌, ◌+◌, ◌==◌, ◌||◌, ◌&&◌, if◌then◌else◌, Option, Some, None, length, drop, slice_index}
use Rattle.std.specs.List.{take_while}
use Rattle.c_tokens.specs.Bytes.{continues_name, continues_number, is_exponent, is_sign}

-- A name goes on with letters, digits, `_`, `$` and the bytes from 128 on (C11 6.4.2.1).
unfoldable pub name_end : List ℕ → ℕ → ℕ
name_end text i = i + length (take_while continues_name (drop i text))

-- A number goes on with letters, digits, `_`, `.`, and a sign directly after an exponent's letter (C11 6.4.8).
unfoldable pub number_end : Bool → ℕ → List ℕ → ℕ
number_end exponent i [] = i
number_end exponent i (b ∷ bs) =
    if continues_number b || (exponent && is_sign b) then number_end (is_exponent b) (i + 1) bs else i

-- A literal goes on to its quote. A backslash takes the next byte with it. A newline that no backslash takes
-- leaves it open (C11 6.4.4.4, 6.4.5).
unfoldable pub literal_end : ℕ → Bool → ℕ → List ℕ → Option ℕ
literal_end quote taken i [] = None
literal_end quote taken i (b ∷ bs) =
    if taken then literal_end quote false (i + 1) bs
    else if b == quote then Some (i + 1)
    else if b == 92 then literal_end quote true (i + 1) bs
    else if b == 10 then None
    else literal_end quote false (i + 1) bs

-- A comment goes on to the first `*/` (C11 6.4.9).
unfoldable pub comment_end : ℕ → List ℕ → Option ℕ
comment_end i [] = None
comment_end i (b ∷ bs) = if (b == 42) && (slice_index bs 0 == 47) then Some (i + 2) else comment_end (i + 1) bs

-- A `//` comment and a directive go on to the first newline that no backslash stands directly before (C11 5.1.1.2).
unfoldable pub line_end : Bool → ℕ → List ℕ → ℕ
line_end spliced i [] = i
line_end spliced i (b ∷ bs) =
    if spliced then line_end (b == 92) (i + 1) bs
    else if b == 10 then i
    else line_end (b == 92) (i + 1) bs
