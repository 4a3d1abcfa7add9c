-- What the operators give of numbers (C11 6.5.3.3, 6.5.5 to 6.5.14).
use Rattle.std.specs.Prelude.{ℕ, ◌^◌, Bool, not, ◌&&◌, ◌||◌, ℤ, pos, negsuc, neg_ℤ, ◌+ℤ◌, ◌-ℤ◌, ◌*ℤ◌, int_lt, int_le, int_div, int_rem, nat_lt, Option, Some, None, if◌then◌else◌}
use Rattle.std.specs.Int.{w128, int_div_euclid, int_bit_and, int_bit_or, int_bit_xor}
use Rattle.std.specs.Option.{option_map}
use Rattle.std.specs.Ordering.{int_eq}
use Rattle.c_values.specs.declared.operator.Binary.{Binary}
use Rattle.c_values.specs.declared.operator.Binary.TheVariants as operators
use Rattle.c_values.specs.declared.operator.Calculation.{Calculation}
use Rattle.c_values.specs.declared.operator.Calculation.TheVariants.{Multiply, Divide, Remainder, Add, Subtract, And, Xor, Or}
use Rattle.c_values.specs.declared.operator.Shift.{Shift}
use Rattle.c_values.specs.declared.operator.Shift.TheVariants as shifts
use Rattle.c_values.specs.declared.operator.Comparison.{Comparison}
use Rattle.c_values.specs.declared.operator.Comparison.TheVariants as comparisons
use Rattle.c_values.specs.declared.operator.Logic.{Logic}
use Rattle.c_values.specs.declared.operator.Logic.TheVariants as logic
use Rattle.c_values.specs.declared.operator.Unary.{Unary}
use Rattle.c_values.specs.declared.operator.Unary.TheVariants as unary
use Rattle.c_values.specs.Numbers.{cut, bit_count, is_zero, truth}

-- before it is cut to the type. Quotients are rounded toward 0 (6.5.5, 6); 128 bits hold each integer of C in two's complement.
abbrev pub exact : Calculation → ℤ → ℤ → Option ℤ
exact Multiply x y = Some (x *ℤ y)
exact Divide x y = if is_zero y then None else Some (int_div x y)
exact Remainder x y = if is_zero y then None else Some (int_rem x y)
exact Add x y = Some (x +ℤ y)
exact Subtract x y = Some (x -ℤ y)
exact And x y = Some (int_bit_and w128 x y)
exact Xor x y = Some (int_bit_xor w128 x y)
exact Or x y = Some (int_bit_or w128 x y)

-- of numbers converted to the type, and cut to it
unfoldable pub calculated : Calculation → ℕ → Bool → ℤ → ℤ → Option ℤ
calculated op size signed x y = option_map (cut size signed) (exact op (cut size signed x) (cut size signed y))

-- A shift to the right is rounded down, also where the number is below 0 (6.5.7, 5, and GCC's choice).
abbrev pub exact_shift : Shift → ℤ → ℕ → ℤ
exact_shift shifts.Left x n = x *ℤ pos (2 ^ n)
exact_shift shifts.Right x n = int_div_euclid x (pos (2 ^ n))

-- There is none for an amount below 0 or not below the bits of the type (6.5.7, 3).
unfoldable pub shifted : Shift → ℕ → Bool → ℤ → ℤ → Option ℤ
shifted op size signed x (pos n) = if nat_lt n (bit_count size) then Some (cut size signed (exact_shift op (cut size signed x) n)) else None
shifted op size signed x (negsuc n) = None

abbrev pub compared : Comparison → ℤ → ℤ → Bool
compared comparisons.Less x y = int_lt x y
compared comparisons.Greater x y = int_lt y x
compared comparisons.AtMost x y = int_le x y
compared comparisons.AtLeast x y = int_le y x
compared comparisons.Equal x y = int_eq x y
compared comparisons.Unequal x y = not (int_eq x y)

abbrev pub holds : Logic → ℤ → ℤ → Bool
holds logic.And x y = not (is_zero x) && not (is_zero y)
holds logic.Or x y = not (is_zero x) || not (is_zero y)

-- what an operator that computes in integers of so many bytes gives of two numbers, if it has a value
abbrev pub computed : Binary → ℕ → Bool → ℤ → ℤ → Option ℤ
computed (operators.Calculation op) size signed x y = calculated op size signed x y
computed (operators.Shift op) size signed x y = shifted op size signed x y
computed (operators.Comparison op) size signed x y = Some (truth (compared op (cut size signed x) (cut size signed y)))
computed (operators.Logic op) size signed x y = Some (truth (holds op x y))

-- Of one number. The complement of z is -1 - z in two's complement.
abbrev pub exact_unary : Unary → ℤ → ℤ
exact_unary unary.Plus z = z
exact_unary unary.Minus z = neg_ℤ z
exact_unary unary.Complement z = negsuc 0 -ℤ z
exact_unary unary.Not z = truth (is_zero z)

unfoldable pub computed_unary : Unary → ℕ → Bool → ℤ → ℤ
computed_unary op size signed z = cut size signed (exact_unary op (cut size signed z))
