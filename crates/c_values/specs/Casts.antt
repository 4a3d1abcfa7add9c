-- Casts and null pointer constants (C11 6.3.2.3 and 6.5.4).
use Rattle.std.specs.Prelude.{Bool, true, false, ◌&&◌, Option, Some, if◌then◌else◌}
use Rattle.std.specs.Option.{option_and_then, option_map}
use Rattle.c_types.specs.declared.ctype.CType.{CType, out-CType}
use Rattle.c_types.specs.declared.ctype.CType as types
use Rattle.c_types.specs.declared.ctype.CType.TheOpen.{CType-F}
use Rattle.c_values.specs.declared.value.Value.{Value}
use Rattle.c_values.specs.declared.value.Constant.{Constant}
use Rattle.c_values.specs.declared.value.Constant.TheVariants.{Varies, Undefined, Known, Null}
use Rattle.c_values.specs.declared.scalar.Scalar.{Scalar}
use Rattle.c_values.specs.declared.scalar.Scalar.TheVariants.{Number, Pointer}
use Rattle.c_values.specs.declared.scalar.Operand.{Operand}
use Rattle.c_values.specs.Numbers.{is_zero}
use Rattle.c_values.specs.NumberTypes.{converted}
use Rattle.c_values.specs.Operands.{operand_of, scalar_of, type_of_scalar}

abbrev void_at : CType-F CType → Bool
void_at CType-F.Void = true
void_at _ = false

abbrev pub is_void : CType → Bool
is_void t = void_at (out-CType t)

-- a null pointer constant: an integer constant 0, or that cast to `void *` (6.3.2.3, 3)
abbrev pub is_null : Constant → Bool
is_null Varies = false
is_null Undefined = false
is_null (Known z) = is_zero z
is_null Null = true

-- Of integers the value is cut to the type; a null pointer constant stays one as `void *`.
abbrev pub cast_constant : Scalar → Constant → Constant
cast_constant (Number t) c = converted t c
cast_constant (Pointer to) c = if is_void to && is_null c then Null else Varies

abbrev pub cast_to : Scalar → Operand → Value
cast_to s x = record { ctype = type_of_scalar s; constant = cast_constant s x.constant }

-- to `void`, or of a scalar to a scalar type (6.5.4, 2)
abbrev pub cast_of : CType → Value → Option Value
cast_of to v =
    if is_void to then Some (record { ctype = types.Void; constant = Varies })
    else option_and_then (λ (s : Scalar). option_map (cast_to s) (operand_of v)) (scalar_of to)
