-- What GNU attributes ask for that changes sizes (GCC manual, "Attribute Syntax", "Common Variable Attributes", "Common Type Attributes").
use Rattle.std.specs.Prelude.{◌≡◌, ℕ, Bool, true, false, ◌+◌, ◌&&◌, ◌||◌, nat_eq, codes, if◌then◌else◌, List, length, Option, Some, None}
use Rattle.std.specs.Cmp.Lexicographic.{pointwise}
use Rattle.c_types.specs.declared.ctype.CType.{CType, Int, out-CType}
use Rattle.c_types.specs.declared.ctype.CType.TheOpen.{CType-F}
use Rattle.c_words.specs.File.{File}
use Rattle.c_words.specs.Words.{word_at, bytes_at, past_group}
use Rattle.std.specs.Option.{option_and_then}
use Rattle.c_reader.specs.declared.attributes.Mode.{Mode}
use Rattle.c_reader.specs.declared.attributes.Mode.TheVariants as modes
use Rattle.c_reader.specs.declared.attributes.Attributes.{Attributes}
use Rattle.c_reader.specs.declared.attributes.Asked.{Asked}
use Rattle.c_reader.specs.declared.next.Next.{Next}
use Rattle.c_reader.specs.declared.next.Next.TheVariants.{Done, More}
use Rattle.c_reader.specs.Repeat.{repeated}
use Rattle.c_reader.specs.Marks.{is_attribute, is_close_paren, is_name, is_open_bracket, is_open_paren}

abbrev pub no_attributes : Attributes
no_attributes = record { vector = false; aligned = false; mode = modes.Unasked }

abbrev pub both_modes : Mode → Mode → Mode
both_modes modes.Unasked b = b
both_modes (modes.Bytes n) modes.Unasked = modes.Bytes n
both_modes (modes.Bytes n) (modes.Bytes m) = modes.Other
both_modes (modes.Bytes n) modes.Other = modes.Other
both_modes modes.Other b = modes.Other

abbrev pub both : Attributes → Attributes → Attributes
both a b = record { vector = a.vector || b.vector; aligned = a.aligned || b.aligned; mode = both_modes a.mode b.mode }

abbrev pub is : List ℕ → List ℕ → Bool
is name word = pointwise nat_eq name word

unfoldable pub mode_named : List ℕ → Mode
mode_named name =
    if is name (codes "QI") || is name (codes "__QI__") then modes.Bytes 1
    else if is name (codes "HI") || is name (codes "__HI__") then modes.Bytes 2
    else if is name (codes "SI") || is name (codes "__SI__") then modes.Bytes 4
    else if is name (codes "DI") || is name (codes "__DI__") then modes.Bytes 8
    else modes.Other

-- ---- one group

-- the mode in the parentheses at the index, in which its name stands alone
abbrev pub mode_behind : File → ℕ → Mode
mode_behind f i =
    if is_open_paren (word_at f i) && is_close_paren (word_at f (i + 2)) then mode_named (bytes_at f (i + 1)) else modes.Other

-- what the attribute with its name at the index asks for, alone or with underscores on both sides
unfoldable pub asked_named : File → ℕ → Attributes
asked_named f i =
    if is (bytes_at f i) (codes "vector_size") || is (bytes_at f i) (codes "__vector_size__") then record no_attributes { vector = true }
    else if is (bytes_at f i) (codes "packed") || is (bytes_at f i) (codes "__packed__") then record no_attributes { aligned = true }
    else if is (bytes_at f i) (codes "aligned") || is (bytes_at f i) (codes "__aligned__") then record no_attributes { aligned = true }
    else if is (bytes_at f i) (codes "mode") || is (bytes_at f i) (codes "__mode__") then record no_attributes { mode = mode_behind f (i + 1) }
    else no_attributes

abbrev pub asked_by : File → ℕ → Attributes
asked_by f i = if is_name (word_at f i) then asked_named f i else no_attributes

-- one token of a list of attributes, beside what is asked already; brackets behind it are passed over: in them stand arguments
abbrev pub asked_step : File → ℕ → Attributes → Next Attributes Attributes
asked_step f i asked = More (both asked (asked_by f i)) (past_group f i)

abbrev pub asked_stop : ℕ → Attributes → Attributes
asked_stop i asked = asked

-- what the list of attributes that ends before the index `end` asks for from the index i on
abbrev pub asked_until : File → ℕ → ℕ → Attributes → Attributes
asked_until f end i asked = repeated (asked_step f) asked_stop end i asked

abbrev pub asked_between : File → ℕ → ℕ → Attributes
asked_between f i end = asked_until f end i no_attributes

-- ---- groups one behind the other: each a list of attributes in two brackets

abbrev pub begins_attribute : File → ℕ → Bool
begins_attribute f i = is_attribute (word_at f i) && is_open_paren (word_at f (i + 1))

-- two brackets open: attributes of C23 (6.7.12.1 there)
abbrev pub opens_attribute : File → ℕ → Bool
opens_attribute f i = is_open_bracket (word_at f i) && is_open_bracket (word_at f (i + 1))

-- in these a mode isn't known
abbrev unknown_mode : Mode → Mode
unknown_mode modes.Unasked = modes.Unasked
unknown_mode _ = modes.Other

abbrev pub with_unknown_mode : Attributes → Attributes
with_unknown_mode a = record a { mode = unknown_mode a.mode }

abbrev pub attributes_step : File → ℕ → Attributes → Next Attributes Asked
attributes_step f i asked =
    if begins_attribute f i
    then More (both asked (asked_between f (i + 3) (past_group f (i + 1)))) (past_group f (i + 1))
    else if opens_attribute f i
    then More (both asked (with_unknown_mode (asked_between f (i + 2) (past_group f i)))) (past_group f i)
    else Done (record { attributes = asked; end = i })

-- where the attributes have ended
abbrev pub EndsAt : ℕ → Next Attributes Asked → Type 0
EndsAt i (Done found) = found.end ≡ i
EndsAt i (More asked j) = Unit {0}

-- they haven't
abbrev pub GoesOn : Next Attributes Asked → Type 0
GoesOn (Done found) = ⊥
GoesOn (More asked j) = Unit {0}

abbrev pub asked_at_end : ℕ → Attributes → Asked
asked_at_end i asked = record { attributes = asked; end = i }

-- what the attributes from the index i on ask for, beside what is asked already
abbrev pub attributes_from : File → Attributes → ℕ → Asked
attributes_from f asked i = repeated (attributes_step f) asked_at_end (length f.tokens) i asked

abbrev pub attributes_at : File → ℕ → Asked
attributes_at f i = attributes_from f no_attributes i

-- ---- what they change

abbrev resized : ℕ → CType-F CType → Option CType
resized bytes (CType-F.Int size signed) = Some (Int bytes signed)
resized bytes _ = None

-- a mode is that of an integer
abbrev pub with_mode : Mode → CType → Option CType
with_mode modes.Unasked t = Some t
with_mode (modes.Bytes n) t = resized n (out-CType t)
with_mode modes.Other t = None

abbrev known_at : CType → CType-F CType → Option CType
known_at t CType-F.Unknown = None
known_at t _ = Some t

-- Unknown is no type
abbrev pub known : CType → Option CType
known t = known_at t (out-CType t)

-- The type of a name declared with these attributes, if it is known. A vector isn't; of a typedef name the alignment counts too,
-- since it changes where members of that type lie (this project's own).
unfoldable pub typed_with : Attributes → Bool → CType → Option CType
typed_with a is_typedef t =
    if a.vector || (is_typedef && a.aligned) then None else option_and_then known (with_mode a.mode t)
