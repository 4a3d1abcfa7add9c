-- Expressions with what they are, worked out by hand from C11 for i386.
use Rattle.std.proofs.Common.{◌≡◌, ℕ, true, false, Some, None, refl}
use Rattle.std.specs.Prelude.{ℤ, pos, negsuc}
use Rattle.std.specs.Option.{option_map}
use Rattle.c_types.specs.declared.ctype.CType.{CType}
use Rattle.c_types.specs.declared.ctype.CType as types
use Rattle.c_types.specs.declared.tag.Tags.{Tags}
use Rattle.c_values.specs.declared.value.Value.{Value}
use Rattle.c_values.specs.declared.value.Constant.TheVariants.{Varies, Undefined, Known}
use Rattle.c_values.specs.declared.operator.Binary.TheVariants.{Calculation, Shift, Comparison, Logic}
use Rattle.c_values.specs.declared.operator.Calculation.TheVariants as calculations
use Rattle.c_values.specs.declared.operator.Shift.TheVariants as shifts
use Rattle.c_values.specs.declared.operator.Comparison.TheVariants as comparisons
use Rattle.c_values.specs.declared.operator.Logic.TheVariants as logic
use Rattle.c_values.specs.declared.operator.Unary.TheVariants as unary
use Rattle.c_values.specs.Numbers.{cut}
use Rattle.c_values.specs.Calculations.{calculated, shifted, computed_unary}
use Rattle.c_values.specs.Operators.{binary_of, unary_of}
use Rattle.c_values.specs.Casts.{cast_of}
use Rattle.c_values.specs.Choices.{conditional_of}
use Rattle.c_values.specs.Literals.{character_constant, integer_constant, sizeof_of}
use Rattle.c_values.specs.Readings.{known, value_size}

abbrev int_type : CType
int_type = types.Int 4 true

abbrev unsigned_type : CType
unsigned_type = types.Int 4 false

abbrev of_type : CType → ℤ → Value
of_type t z = record { ctype = t; constant = Known z }

abbrev int : ℤ → Value
int z = of_type int_type z

abbrev variable : CType → Value
variable t = record { ctype = t; constant = Varies }

abbrev undefined : Value
undefined = record { ctype = int_type; constant = Undefined }

-- `0xffffffff` is an unsigned int, which an operand of 4 bytes reads as -1
wide_hexadecimal : integer_constant 4 false 0xffffffff ≡ of_type unsigned_type (pos 4294967295)
unfolding cut
wide_hexadecimal = refl

wide_hexadecimal_read : known (of_type unsigned_type (pos 4294967295)) ≡ Some (negsuc 0)
unfolding cut types.out-CType denote.Hole.Carrier.out
wide_hexadecimal_read = refl

-- `'\377'`
last_character : character_constant 255 ≡ int (negsuc 0)
unfolding cut
last_character = refl

-- `1 / 0`
division_by_zero : binary_of (Calculation calculations.Divide) (int (pos 1)) (int (pos 0)) ≡ Some undefined
unfolding calculated cut types.out-CType denote.Hole.Carrier.out
division_by_zero = refl

-- `1 ? 2 : 1 / 0`
chosen_part : conditional_of (int (pos 1)) (int (pos 2)) undefined ≡ Some (int (pos 2))
unfolding cut types.out-CType denote.Hole.Carrier.out
chosen_part = refl

-- `1 ? -1 : 0u`
chosen_in_common_type : conditional_of (int (pos 1)) (int (negsuc 0)) (of_type unsigned_type (pos 0)) ≡ Some (of_type unsigned_type (pos 4294967295))
unfolding cut types.out-CType denote.Hole.Carrier.out
chosen_in_common_type = refl

-- `0 && 1 / 0`, and `0 && x`
skipped_part : binary_of (Logic logic.And) (int (pos 0)) undefined ≡ Some (int (pos 0))
unfolding cut types.out-CType denote.Hole.Carrier.out
skipped_part = refl

skipped_variable : binary_of (Logic logic.And) (int (pos 0)) (variable int_type) ≡ Some (variable int_type)
unfolding cut types.out-CType denote.Hole.Carrier.out
skipped_variable = refl

-- `-1 > 0u`
signs_mixed : binary_of (Comparison comparisons.Greater) (int (negsuc 0)) (of_type unsigned_type (pos 0)) ≡ Some (int (pos 1))
unfolding cut types.out-CType denote.Hole.Carrier.out
signs_mixed = refl

-- `(unsigned char)300`, `(_Bool)300`, `(enum e)1`
cast_to_byte : cast_of (types.Int 1 false) (int (pos 300)) ≡ Some (of_type (types.Int 1 false) (pos 44))
unfolding cut types.out-CType denote.Hole.Carrier.out
cast_to_byte = refl

cast_to_truth : cast_of types.Bool (int (pos 300)) ≡ Some (of_type types.Bool (pos 1))
unfolding cut types.out-CType denote.Hole.Carrier.out
cast_to_truth = refl

cast_to_enumeration : cast_of types.Enumeration (int (pos 1)) ≡ Some (record { ctype = types.Enumeration; constant = Undefined })
unfolding cut types.out-CType denote.Hole.Carrier.out
cast_to_enumeration = refl

-- `1 << 31`, `1 << 32` and `-8 >> 1`
shifted_into_the_sign : binary_of (Shift shifts.Left) (int (pos 1)) (int (pos 31)) ≡ Some (int (negsuc 2147483647))
unfolding shifted cut types.out-CType denote.Hole.Carrier.out
shifted_into_the_sign = refl

shifted_out : binary_of (Shift shifts.Left) (int (pos 1)) (int (pos 32)) ≡ Some undefined
unfolding shifted cut types.out-CType denote.Hole.Carrier.out
shifted_out = refl

shifted_below_zero : binary_of (Shift shifts.Right) (int (negsuc 7)) (int (pos 1)) ≡ Some (int (negsuc 3))
unfolding shifted cut types.out-CType denote.Hole.Carrier.out
shifted_below_zero = refl

-- a shift of a char by a long long is an int
shift_of_char : binary_of (Shift shifts.Left) (of_type (types.Int 1 true) (pos 1)) (of_type (types.Int 8 true) (pos 2)) ≡ Some (int (pos 4))
unfolding shifted cut types.out-CType denote.Hole.Carrier.out
shift_of_char = refl

-- `-7 / 2` and `-7 % 2`
quotient : binary_of (Calculation calculations.Divide) (int (negsuc 6)) (int (pos 2)) ≡ Some (int (negsuc 2))
unfolding calculated cut types.out-CType denote.Hole.Carrier.out
quotient = refl

remainder : binary_of (Calculation calculations.Remainder) (int (negsuc 6)) (int (pos 2)) ≡ Some (int (negsuc 0))
unfolding calculated cut types.out-CType denote.Hole.Carrier.out
remainder = refl

-- the least int divided by -1
least_by_minus_one : binary_of (Calculation calculations.Divide) (int (negsuc 2147483647)) (int (negsuc 0)) ≡ Some (int (negsuc 2147483647))
unfolding calculated cut types.out-CType denote.Hole.Carrier.out
least_by_minus_one = refl

-- `~0u`
complement : unary_of unary.Complement (of_type unsigned_type (pos 0)) ≡ Some (of_type unsigned_type (pos 4294967295))
unfolding computed_unary cut types.out-CType denote.Hole.Carrier.out
complement = refl

-- an unsigned int and a long long, an enumeration and an int
longer_type : binary_of (Calculation calculations.Add) (variable unsigned_type) (variable (types.Int 8 true)) ≡ Some (variable (types.Int 8 true))
unfolding types.out-CType denote.Hole.Carrier.out
longer_type = refl

enumeration_with_int : binary_of (Calculation calculations.Add) (variable int_type) (variable types.Enumeration) ≡ Some (variable types.Enumeration)
unfolding types.out-CType denote.Hole.Carrier.out
enumeration_with_int = refl

-- `sizeof` of a long long
type_of_size : (tags : Tags) (place : ℕ) → option_map (λ (v : Value). v.ctype) (sizeof_of tags place (types.Int 8 true)) ≡ Some unsigned_type
unfolding types.out-CType denote.Hole.Carrier.out
type_of_size tags place = refl

-- of `int a[3]` the size of the value
array_as_value : value_size (variable (types.Array int_type (Some 3))) ≡ Some 4
unfolding types.out-CType denote.Hole.Carrier.out
array_as_value = refl

-- a pointer is added to no float
pointer_and_float : binary_of (Calculation calculations.Add) (variable (types.Pointer int_type)) (variable (types.Float 8)) ≡ None
unfolding types.out-CType denote.Hole.Carrier.out
pointer_and_float = refl
