-- The conditional operator (C11 6.5.15).
use Rattle.std.specs.Prelude.{◌==◌, ◌&&◌, Option, Some, None, if◌then◌else◌}
use Rattle.std.specs.Option.{option_and_then, option_map}
use Rattle.c_types.specs.declared.ctype.CType.{CType, out-CType}
use Rattle.c_types.specs.declared.ctype.CType as types
use Rattle.c_types.specs.declared.ctype.CType.TheOpen.{CType-F}
use Rattle.c_values.specs.declared.value.Value.{Value}
use Rattle.c_values.specs.declared.value.Constant.{Constant}
use Rattle.c_values.specs.declared.value.Constant.TheVariants.{Varies, Undefined, Known}
use Rattle.c_values.specs.declared.scalar.Scalar.{Scalar}
use Rattle.c_values.specs.declared.scalar.Scalar.TheVariants.{Number, Pointer}
use Rattle.c_values.specs.declared.scalar.Operand.{Operand}
use Rattle.c_values.specs.Numbers.{is_zero}
use Rattle.c_values.specs.NumberTypes.{common, converted}
use Rattle.c_values.specs.Operands.{operand_of, type_of_scalar, is_constant, without_value}
use Rattle.c_values.specs.Casts.{is_void, is_null}

-- ---- types

abbrev shared_at : CType-F CType → CType-F CType → Option CType
shared_at CType-F.Void CType-F.Void = Some types.Void
shared_at (CType-F.Tagged m) (CType-F.Tagged n) = if m == n then Some (types.Tagged m) else None
shared_at a b = None

-- the type of two parts that are `void`, or the same struct or union
abbrev pub shared_type : CType → CType → Option CType
shared_type a b = shared_at (out-CType a) (out-CType b)

-- the composite of two types that pointers point to: of types but structs and unions it isn't known, since types have
-- no names here
abbrev composite_at : CType-F CType → CType-F CType → CType
composite_at (CType-F.Tagged m) (CType-F.Tagged n) = if m == n then types.Tagged m else types.Unknown
composite_at a b = types.Unknown

abbrev pub composite : CType → CType → CType
composite p q = composite_at (out-CType p) (out-CType q)

-- Of two pointers a null pointer constant takes the other's type, and `void *` beside another stays (6.5.15, 6).
abbrev pub pointed_to : Constant → CType → Constant → CType → CType
pointed_to x p y q =
    if is_null y then p else if is_null x then q else if is_void p then p else if is_void q then q else composite p q

abbrev pub chosen_at : Scalar → Constant → Scalar → Constant → Option Scalar
chosen_at (Number a) x (Number b) y = Some (Number (common a b))
chosen_at (Pointer p) x (Pointer q) y = Some (Pointer (pointed_to x p y q))
chosen_at (Pointer p) x (Number b) y = if is_null y then Some (Pointer p) else None
chosen_at (Number a) x (Pointer q) y = if is_null x then Some (Pointer q) else None

-- ---- constants

-- The part that is not chosen needs no value, but it must be a constant.
abbrev pub selected : Constant → Constant → Constant → Constant
selected (Known z) x y = if is_constant x && is_constant y then (if is_zero z then y else x) else Varies
selected Undefined x y = without_value x y
selected c x y = Varies

abbrev pub selected_as : Scalar → Constant → Constant
selected_as (Number t) c = converted t c
selected_as (Pointer to) c = Varies

-- ---- values

abbrev pub chosen_as : Constant → Operand → Operand → Scalar → Value
chosen_as c a b s = record { ctype = type_of_scalar s; constant = selected_as s (selected c a.constant b.constant) }

abbrev pub chosen : Constant → Operand → Operand → Option Value
chosen c a b = option_map (chosen_as c a b) (chosen_at a.scalar a.constant b.scalar b.constant)

abbrev pub alternative_of : Constant → Value → Value → Option CType → Option Value
alternative_of c a b (Some t) = Some (record { ctype = t; constant = Varies })
alternative_of c a b None = option_and_then (λ (x : Operand). option_and_then (chosen c x) (operand_of b)) (operand_of a)

-- `condition ? a : b`
abbrev pub conditional_of : Value → Value → Value → Option Value
conditional_of condition a b =
    option_and_then (λ (c : Operand). alternative_of c.constant a b (shared_type a.ctype b.ctype)) (operand_of condition)
