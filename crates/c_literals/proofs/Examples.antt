-- Worked examples of the definitions.
use Rattle.std.proofs.Common.{◌≡◌, ℕ, true, false, [], ◌∷◌, Some, None, codes, refl}
use Rattle.c_tokens.specs.declared.token.Token.{Token}
use Rattle.c_tokens.specs.declared.token.TokenKind.TheVariants.{Text}
use Rattle.c_literals.specs.declared.base.Base.TheVariants.{Octal, Hexadecimal}
use Rattle.c_literals.specs.Digits.{is_digit, number}
use Rattle.c_literals.specs.Raws.{raws_from}
use Rattle.c_literals.specs.Escapes.{escape_at, read_at, simple_escape}
use Rattle.c_literals.specs.Literals.{character_constant, read_from, string_length}
use Rattle.c_literals.specs.Suffixes.{suffix_of}
use Rattle.c_literals.specs.Integers.{constant, first_fit, integer_constant}

octal : number Octal (codes "0377") ≡ 255
unfolding number
octal = refl

hexadecimal : number Hexadecimal (codes "fF") ≡ 255
unfolding number
hexadecimal = refl

zero_is_int : integer_constant (codes "0") ≡ Some (constant 4 true 0)
unfolding integer_constant number is_digit suffix_of first_fit
zero_is_int = refl

greatest_int : integer_constant (codes "2147483647") ≡ Some (constant 4 true 2147483647)
unfolding integer_constant number is_digit suffix_of first_fit
greatest_int = refl

no_decimal_is_unsigned : integer_constant (codes "4294967295") ≡ Some (constant 8 true 4294967295)
unfolding integer_constant number is_digit suffix_of first_fit
no_decimal_is_unsigned = refl

hexadecimal_unsigned_int : integer_constant (codes "0xffffffff") ≡ Some (constant 4 false 4294967295)
unfolding integer_constant number is_digit suffix_of first_fit
hexadecimal_unsigned_int = refl

two_suffixes : integer_constant (codes "010LLu") ≡ Some (constant 8 false 8)
unfolding integer_constant number is_digit suffix_of first_fit
two_suffixes = refl

too_great : integer_constant (codes "9223372036854775808") ≡ None
unfolding integer_constant number is_digit suffix_of first_fit
too_great = refl

no_octal_digit : integer_constant (codes "08") ≡ None
unfolding integer_constant number is_digit suffix_of first_fit
no_octal_digit = refl

mixed_suffix : integer_constant (codes "1lL") ≡ None
unfolding integer_constant number is_digit suffix_of first_fit
mixed_suffix = refl

no_digits : integer_constant (codes "0x") ≡ None
unfolding integer_constant number is_digit suffix_of first_fit
no_digits = refl

abbrev token : ℕ → Token
token to = record { kind = Text; span = record { from = 0; to = to } }

-- '\n'
newline : character_constant (39 ∷ 92 ∷ 110 ∷ 39 ∷ []) (token 4) ≡ Some 10
unfolding raws_from read_from read_at escape_at simple_escape is_digit number
newline = refl

-- "\x41b\<newline>c": `\x41b` is greater than 255
great_escape : string_length (34 ∷ 92 ∷ 120 ∷ 52 ∷ 49 ∷ 98 ∷ 92 ∷ 10 ∷ 99 ∷ 34 ∷ []) (token 10) ≡ None
unfolding raws_from read_from read_at escape_at simple_escape is_digit number
great_escape = refl

-- "\1011<backslash, newline>1"
octal_escape : string_length (34 ∷ 92 ∷ 49 ∷ 48 ∷ 49 ∷ 49 ∷ 92 ∷ 10 ∷ 49 ∷ 34 ∷ []) (token 10) ≡ Some 3
unfolding raws_from read_from read_at escape_at simple_escape is_digit number
octal_escape = refl
