-- Which bytes spell a token of which kind, whatever stands around them (C11 6.4.2, 6.4.4.4, 6.4.5, 6.4.6, 6.4.8).
use Rattle.std.specs.Prelude.{ℕ, Bool, true, false, List, [], ◌∷◌, ◌==◌, ◌||◌, ◌&&◌, codes, if◌then◌else◌, length, drop}
use Rattle.std.specs.List.{list_any, list_all}
use Rattle.c_tokens.specs.declared.token.TokenKind.{TokenKind}
use Rattle.c_tokens.specs.declared.token.TokenKind.TheVariants.{Name, Number, Char, Text, Punct}
use Rattle.c_tokens.specs.Bytes.{begins_name, continues_name, is_digit, continues_number, is_exponent, is_sign}
use Rattle.c_tokens.specs.Puncts.{threes, twos, ones, begins}

abbrev pub is_name : List ℕ → Bool
is_name [] = false
is_name (b ∷ bs) = begins_name b && list_all continues_name bs

-- the bytes of a number behind its first: a sign stands directly behind an exponent's letter
unfoldable pub is_rest_of_number : Bool → List ℕ → Bool
is_rest_of_number exponent [] = true
is_rest_of_number exponent (b ∷ bs) = (continues_number b || (exponent && is_sign b)) && is_rest_of_number (is_exponent b) bs

abbrev pub begins_with_digit : List ℕ → Bool
begins_with_digit [] = false
begins_with_digit (b ∷ bs) = is_digit b

abbrev pub is_number : List ℕ → Bool
is_number [] = false
is_number (b ∷ bs) = (is_digit b || ((b == 46) && begins_with_digit bs)) && is_rest_of_number false bs

abbrev pub is_empty : List ℕ → Bool
is_empty [] = true
is_empty (b ∷ bs) = false

-- the bytes of a literal behind its opening quote: the first quote that no backslash takes is the last byte
unfoldable pub is_rest_of_literal : ℕ → Bool → List ℕ → Bool
is_rest_of_literal quote taken [] = false
is_rest_of_literal quote taken (b ∷ bs) =
    if taken then is_rest_of_literal quote false bs
    else if b == quote then is_empty bs
    else if b == 92 then is_rest_of_literal quote true bs
    else if b == 10 then false
    else is_rest_of_literal quote false bs

abbrev pub is_quoted : ℕ → List ℕ → Bool
is_quoted quote [] = false
is_quoted quote (b ∷ bs) = (b == quote) && is_rest_of_literal quote false bs

-- with no prefix, or with `L`, `u`, `U` or `u8`
abbrev pub is_literal : ℕ → List ℕ → Bool
is_literal quote bs = is_quoted quote bs || (begins (codes "L") bs && is_quoted quote (drop 1 bs)) || (begins (codes "u") bs && is_quoted quote (drop 1 bs))
    || (begins (codes "U") bs && is_quoted quote (drop 1 bs)) || (begins (codes "u8") bs && is_quoted quote (drop 2 bs))

abbrev pub is_word_of : List (List ℕ) → List ℕ → Bool
is_word_of table bs = list_any (λ word. (length word == length bs) && begins word bs) table

abbrev pub is_punctuator : List ℕ → Bool
is_punctuator bs = is_word_of threes bs || is_word_of twos bs || is_word_of ones bs

abbrev pub spells : TokenKind → List ℕ → Bool
spells Name bs = is_name bs
spells Number bs = is_number bs
spells Char bs = is_literal 39 bs
spells Text bs = is_literal 34 bs
spells Punct bs = is_punctuator bs
