-- What an operator sees of an operand (C11 6.3.2.1).
use Rattle.std.specs.Prelude.{Bool, true, false, ℤ, Option, Some, None, ◌&&◌, if◌then◌else◌}
use Rattle.std.specs.Option.{option_map}
use Rattle.c_types.specs.declared.ctype.CType.{CType, out-CType}
use Rattle.c_types.specs.declared.ctype.CType as types
use Rattle.c_types.specs.declared.ctype.CType.TheOpen.{CType-F}
use Rattle.c_types.specs.Types.{wrapped}
use Rattle.c_values.specs.declared.value.Value.{Value}
use Rattle.c_values.specs.declared.value.Constant.{Constant}
use Rattle.c_values.specs.declared.value.Constant.TheVariants.{Varies, Undefined, Known, Null}
use Rattle.c_values.specs.declared.number_type.NumberType.TheVariants as numbers
use Rattle.c_values.specs.declared.scalar.Scalar.{Scalar}
use Rattle.c_values.specs.declared.scalar.Scalar.TheVariants.{Number, Pointer}
use Rattle.c_values.specs.declared.scalar.Operand.{Operand}
use Rattle.c_values.specs.NumberTypes.{converted, type_of_number}

abbrev decayed_at : CType → CType-F CType → CType
decayed_at t (CType-F.Array element length) = types.Pointer element
decayed_at t (CType-F.VariableArray element) = types.Pointer element
decayed_at t (CType-F.Function gives) = wrapped types.Pointer t
decayed_at t _ = t

-- An array becomes a pointer to its elements, a function a pointer to itself (6.3.2.1, 3 and 4).
abbrev pub decayed : CType → CType
decayed t = decayed_at t (out-CType t)

abbrev scalar_at : CType-F CType → Option Scalar
scalar_at CType-F.Bool = Some (Number numbers.Bool)
scalar_at (CType-F.Int size signed) = Some (Number (numbers.Int size signed))
scalar_at CType-F.Enumeration = Some (Number numbers.Enumeration)
scalar_at (CType-F.Float size) = Some (Number (numbers.Float size))
scalar_at (CType-F.Pointer to) = Some (Pointer to)
scalar_at _ = None

-- the type as a scalar one (6.2.5, 21)
abbrev pub scalar_of : CType → Option Scalar
scalar_of t = scalar_at (out-CType t)

abbrev pub type_of_scalar : Scalar → CType
type_of_scalar (Number t) = type_of_number t
type_of_scalar (Pointer to) = types.Pointer to

-- A pointer is a constant only as the null pointer constant `(void *)0`.
abbrev pub pointer_constant : Constant → Constant
pointer_constant Null = Null
pointer_constant c = Varies

-- the constant of an expression of the type
abbrev pub held : Scalar → Constant → Constant
held (Number t) c = converted t c
held (Pointer to) c = pointer_constant c

-- an expression after arrays and functions have become pointers, where it is a scalar
abbrev pub operand_of : Value → Option Operand
operand_of v = option_map (λ (s : Scalar). record { scalar = s; constant = held s v.constant }) (scalar_of (decayed v.ctype))

abbrev unknown_at : CType-F CType → Bool
unknown_at CType-F.Unknown = true
unknown_at _ = false

abbrev pub is_unknown : CType → Bool
is_unknown t = unknown_at (out-CType t)

-- A value of which nothing is known has no type.
abbrev pub varying : CType → Option Value
varying t = if is_unknown t then None else Some (record { ctype = t; constant = Varies })

-- whether it is made of constants alone
abbrev pub is_constant : Constant → Bool
is_constant Varies = false
is_constant Undefined = true
is_constant (Known z) = true
is_constant Null = false

-- what an operator gives of operands that don't both have values
abbrev pub without_value : Constant → Constant → Constant
without_value a b = if is_constant a && is_constant b then Undefined else Varies

-- a value, if there is one
abbrev pub constant_of : Option ℤ → Constant
constant_of None = Undefined
constant_of (Some z) = Known z
