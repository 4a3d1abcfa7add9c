-- Which words make an arithmetic type, or `void` (C11 6.7.2, 2; sizes: System V ABI, Intel386 supplement).
use Rattle.std.specs.Prelude.{ℕ, Bool, true, false, ◌&&◌, ◌||◌, not, if◌then◌else◌, Option, Some, None}
use Rattle.c_types.specs.declared.ctype.CType.{CType}
use Rattle.c_types.specs.declared.ctype.CType as ctypes
use Rattle.c_words.specs.declared.word.Basic.{Basic}
use Rattle.c_words.specs.declared.word.Basic.TheVariants as basic
use Rattle.c_reader.specs.declared.basics.Core.{Core}
use Rattle.c_reader.specs.declared.basics.Core.TheVariants as core
use Rattle.c_reader.specs.declared.basics.Length.{Length}
use Rattle.c_reader.specs.declared.basics.Length.TheVariants as lengths
use Rattle.c_reader.specs.declared.basics.Sign.{Sign}
use Rattle.c_reader.specs.declared.basics.Sign.TheVariants as signs
use Rattle.c_reader.specs.declared.basics.Basics.{Basics}

abbrev pub no_basics : Basics
no_basics = record { core = core.Unnamed; length = lengths.Plain; sign = signs.Plain }

abbrev pub is_plain : Length → Bool
is_plain lengths.Plain = true
is_plain _ = false

abbrev pub is_unnamed : Core → Bool
is_unnamed core.Unnamed = true
is_unnamed _ = false

abbrev pub is_signless : Sign → Bool
is_signless signs.Plain = true
is_signless _ = false

abbrev pub is_empty : Basics → Bool
is_empty b = is_unnamed b.core && is_plain b.length && is_signless b.sign

-- ---- one more word

-- One word alone says which kind of type it is,
abbrev pub with_core : Core → Basics → Option Basics
with_core c b = elim b.core [
  | core.Unnamed ↦ Some (record b { core = c })
  | _ ↦ None
]

-- `short` stands once,
abbrev pub with_short : Basics → Option Basics
with_short b = elim b.length [
  | lengths.Plain ↦ Some (record b { length = lengths.Short })
  | _ ↦ None
]

-- `long` at most twice,
abbrev pub with_long : Basics → Option Basics
with_long b = elim b.length [
  | lengths.Plain ↦ Some (record b { length = lengths.Long })
  | lengths.Long ↦ Some (record b { length = lengths.LongLong })
  | _ ↦ None
]

-- and one sign.
abbrev pub with_sign : Sign → Basics → Option Basics
with_sign s b = elim b.sign [
  | signs.Plain ↦ Some (record b { sign = s })
  | _ ↦ None
]

abbrev pub with_basic : Basic → Basics → Option Basics
with_basic basic.Void b = with_core core.Void b
with_basic basic.Bool b = with_core core.Bool b
with_basic basic.Char b = with_core core.Char b
with_basic basic.Int b = with_core core.Int b
with_basic basic.Float b = with_core core.Float b
with_basic basic.Double b = with_core core.Double b
with_basic basic.Short b = with_short b
with_basic basic.Long b = with_long b
with_basic basic.Signed b = with_sign signs.Signed b
with_basic basic.Unsigned b = with_sign signs.Unsigned b

-- ---- the type

abbrev pub is_signed : Basics → Bool
is_signed b = elim b.sign [
  | signs.Unsigned ↦ false
  | _ ↦ true
]

abbrev pub has_sign : Basics → Bool
has_sign b = not (is_signless b.sign)

abbrev pub has_length : Basics → Bool
has_length b = not (is_plain b.length)

-- `int` and `long` have 4 bytes
abbrev pub integer_size : Length → ℕ
integer_size lengths.Short = 2
integer_size lengths.Plain = 4
integer_size lengths.Long = 4
integer_size lengths.LongLong = 8

abbrev pub integer_type : Basics → CType
integer_type b = ctypes.Int (integer_size b.length) (is_signed b)

-- a length or a sign alone means `int`
abbrev pub unnamed_type : Basics → Option CType
unnamed_type b = if has_length b || has_sign b then Some (integer_type b) else None

-- `char` without a sign is signed
abbrev pub char_type : Basics → Option CType
char_type b = if has_length b then None else Some (ctypes.Int 1 (is_signed b))

abbrev pub alone : CType → Basics → Option CType
alone t b = if has_length b || has_sign b then None else Some t

abbrev pub double_type : Basics → Option CType
double_type b = elim b.length [
  | lengths.Long ↦ alone (ctypes.Float 12) (record b { length = lengths.Plain })
  | _ ↦ alone (ctypes.Float 8) b
]

-- the type that the words name, if they name one
abbrev pub basics_type : Basics → Option CType
basics_type b = elim b.core [
  | core.Unnamed ↦ unnamed_type b
  | core.Int ↦ Some (integer_type b)
  | core.Char ↦ char_type b
  | core.Void ↦ alone ctypes.Void b
  | core.Bool ↦ alone ctypes.Bool b
  | core.Float ↦ alone (ctypes.Float 4) b
  | core.Double ↦ double_type b
]
