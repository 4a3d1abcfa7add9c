-- Constants as they are written, string literals and sizes.
use Rattle.std.specs.Prelude.{ℕ, Bool, true, false, pos, Option, Some, None, if◌then◌else◌}
use Rattle.c_types.specs.declared.ctype.CType.{CType}
use Rattle.c_types.specs.declared.ctype.CType as types
use Rattle.c_types.specs.declared.tag.Tags.{Tags}
use Rattle.c_types.specs.Extents.{own_size}
use Rattle.c_values.specs.declared.value.Value.{Value}
use Rattle.c_values.specs.declared.value.Constant.{Constant}
use Rattle.c_values.specs.declared.value.Constant.TheVariants.{Varies, Known}
use Rattle.c_values.specs.Numbers.{cut}
use Rattle.c_values.specs.Operands.{is_unknown}

-- of that many bytes (C11 6.4.4.1, 5)
abbrev pub integer_constant : ℕ → Bool → ℕ → Value
integer_constant size signed number = record { ctype = types.Int size signed; constant = Known (cut size signed (pos number)) }

-- an int, of a char with a sign (C11 6.4.4.4, 10; System V ABI, "Fundamental Types")
abbrev pub character_constant : ℕ → Value
character_constant byte = record { ctype = types.Int 4 true; constant = Known (cut 1 true (pos byte)) }

-- an array of so many chars, the final 0 among them (C11 6.4.5, 6)
abbrev pub string_literal : ℕ → Option Value
string_literal length = Some (record { ctype = types.Array (types.Int 1 true) (Some length); constant = Varies })

abbrev pub size_constant : Option ℕ → Constant
size_constant None = Varies
size_constant (Some size) = Known (pos size)

-- `sizeof`: an unsigned int (C11 6.5.3.4, 5; System V ABI)
abbrev pub sizeof_of : Tags → ℕ → CType → Option Value
sizeof_of tags place t =
    if is_unknown t then None else Some (record { ctype = types.Int 4 false; constant = size_constant (own_size tags place t) })
