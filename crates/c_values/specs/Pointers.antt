-- The operators on pointers, functions and objects (C11 6.5.2, 6.5.3.2, 6.5.16, 6.5.17).
use Rattle.std.specs.Prelude.{Bool, true, false, ◌||◌, Option, Some, None, is_some, if◌then◌else◌}
use Rattle.std.specs.Option.{option_and_then}
use Rattle.c_types.specs.declared.ctype.CType.{CType, out-CType}
use Rattle.c_types.specs.declared.ctype.CType as types
use Rattle.c_types.specs.declared.ctype.CType.TheOpen.{CType-F}
use Rattle.c_types.specs.Types.{wrapped}
use Rattle.c_values.specs.declared.value.Value.{Value}
use Rattle.c_values.specs.declared.scalar.Scalar.{Scalar}
use Rattle.c_values.specs.declared.scalar.Scalar.TheVariants.{Number, Pointer}
use Rattle.c_values.specs.declared.scalar.Operand.{Operand}
use Rattle.c_values.specs.declared.operator.Binary.{Binary}
use Rattle.c_values.specs.declared.operator.Binary.TheVariants as operators
use Rattle.c_values.specs.declared.operator.Calculation.TheVariants as calculations
use Rattle.c_values.specs.Operands.{decayed, operand_of, scalar_of, varying}
use Rattle.c_values.specs.Operators.{binary_of}

-- what is pointed to
abbrev pub dereferenced : Scalar → Option Value
dereferenced (Number t) = None
dereferenced (Pointer to) = varying to

-- `*v` (6.5.3.2, 4)
abbrev pub dereference_of : Value → Option Value
dereference_of v = option_and_then (λ (x : Operand). dereferenced x.scalar) (operand_of v)

-- `&v`, a pointer to the operand's own type: of an array, a pointer to the array (6.5.3.2, 3)
abbrev pub address_of : Value → Option Value
address_of v = varying (wrapped types.Pointer v.ctype)

-- `a[b]` is `*(a + b)` (6.5.2.1, 2); of two numbers that is nothing
abbrev pub index_of : Value → Value → Option Value
index_of a b = option_and_then dereference_of (binary_of (operators.Calculation calculations.Add) a b)

abbrev result_at : CType-F CType → Option CType
result_at (CType-F.Function gives) = Some gives
result_at _ = None

-- what a function of the type gives
abbrev pub result_of : CType → Option CType
result_of t = result_at (out-CType t)

abbrev called_at : CType → CType-F CType → Option CType
called_at t (CType-F.Pointer to) = result_of to
called_at t _ = result_of t

-- what a function of the type gives, or what it points to
abbrev pub called : CType → Option CType
called t = called_at t (out-CType t)

-- a call (6.5.2.2, 1 and 5)
abbrev pub call_of : Value → Option Value
call_of v = option_and_then varying (called v.ctype)

abbrev aggregate_at : CType-F CType → Bool
aggregate_at (CType-F.Tagged number) = true
aggregate_at _ = false

abbrev pub is_scalar : CType → Bool
is_scalar t = is_some (scalar_of t)

-- a struct, a union or a scalar: what can be assigned to (6.3.2.1, 1)
abbrev pub is_assignable : CType → Bool
is_assignable t = aggregate_at (out-CType t) || is_scalar t

-- `v = ..`, whatever has a type on the right: the left type (6.5.16, 3)
abbrev pub assignment_of : Value → Option Value
assignment_of v = if is_assignable v.ctype then varying v.ctype else None

-- `a op= b`, where `a op b` has a type (6.5.16.2)
abbrev pub compound_of : Binary → Value → Value → Option Value
compound_of op a b = option_and_then (λ (v : Value). assignment_of a) (binary_of op a b)

-- `++` and `--`, before or after: a scalar, which is no array and no function (6.5.2.4 and 6.5.3.1)
abbrev pub step_of : Value → Option Value
step_of v = if is_scalar v.ctype then varying v.ctype else None

-- `.., v` (6.5.17, 2)
abbrev pub comma_of : Value → Option Value
comma_of v = varying (decayed v.ctype)
