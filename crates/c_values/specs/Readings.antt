-- What is asked of a value: its sizes in bytes, and its number.
use Rattle.std.specs.Prelude.{ℕ, ℤ, Bool, true, false, Option, Some, None}
use Rattle.c_types.specs.declared.ctype.CType.{CType, out-CType}
use Rattle.c_types.specs.declared.ctype.CType.TheOpen.{CType-F}
use Rattle.c_values.specs.declared.value.Value.{Value}
use Rattle.c_values.specs.declared.value.Constant.{Constant}
use Rattle.c_values.specs.declared.value.Constant.TheVariants.{Known}
use Rattle.c_values.specs.Numbers.{cut}

abbrev value_size_at : CType-F CType → Option ℕ
value_size_at CType-F.Bool = Some 1
value_size_at (CType-F.Int size signed) = Some size
value_size_at CType-F.Enumeration = Some 4
value_size_at (CType-F.Pointer to) = Some 4
value_size_at (CType-F.Array element length) = Some 4
value_size_at (CType-F.VariableArray element) = Some 4
value_size_at (CType-F.Function gives) = Some 4
value_size_at _ = None

-- the bytes of an integer, an enumeration or a pointer, after an array or a function became one
abbrev pub value_size : Value → Option ℕ
value_size v = value_size_at (out-CType v.ctype)

abbrev pointer_at : CType-F CType → Bool
pointer_at (CType-F.Pointer to) = true
pointer_at (CType-F.Array element length) = true
pointer_at (CType-F.VariableArray element) = true
pointer_at (CType-F.Function gives) = true
pointer_at _ = false

abbrev pub is_pointer : Value → Bool
is_pointer v = pointer_at (out-CType v.ctype)

abbrev known_at : CType-F CType → Constant → Option ℤ
known_at CType-F.Bool (Known z) = Some (cut 1 true z)
known_at (CType-F.Int size signed) (Known z) = Some (cut size true z)
known_at _ c = None

-- an integer constant, read with a sign in its own size
abbrev pub known : Value → Option ℤ
known v = known_at (out-CType v.ctype) v.constant
