-- Which line of the table of names an instruction has, by its name and the classes of its operands.
use Rattle.std.specs.Prelude.{ℕ, ◌-◌, ◌==◌, ◌||◌, ◌&&◌, nat_le, not, Bool, true, false, List, [], ◌∷◌, length, take, drop, slice_index, count_by, Option, None, Some, is_some, if◌then◌else◌, unwrap_or}
use Rattle.std.specs.Option.{option_map, option_and_then}
use Rattle.std.specs.List.{position}
use Rattle.asm_core.specs.Cond.{cond_named}
use Rattle.asm_core.specs.Reading.Cut.{same_name}
use Rattle.asm_core.specs.declared.reg.Slice.{Slice}
use Rattle.asm_core.specs.declared.inst.Op.{Op}
use Rattle.asm_core.specs.declared.inst.Width.{Width}
use Rattle.asm_core.specs.declared.inst.Repeat.{Repeat}
use Rattle.asm_core.specs.declared.names.Prefix.{Prefix}
use Rattle.asm_core.specs.declared.names.Operation.{Operation}
use Rattle.asm_core.specs.declared.names.Suffixes.{Suffixes}
use Rattle.asm_core.specs.declared.names.Allowed.{Allowed}
use Rattle.asm_core.specs.declared.names.Slot.{Slot}
use Rattle.asm_core.specs.declared.names.NameRow.{NameRow}
use Rattle.asm_core.specs.declared.names.Choice.{Choice}
use Rattle.asm_core.specs.declared.names.Prefixed.{Prefixed}
use Rattle.asm_core.specs.declared.reading.LineOperand.{LineOperand}

-- what the table asks of an operand
pub data Class : Type 0 where
  -- a register of that size, and whether it may be the count of a shift
  Register : (width : Width) → (count : Bool) → Class
  Memory : Class
  Number : Class
  Label : Class

abbrev pub slice_width : Slice → Width
slice_width Slice.Low8 = Width.B
slice_width Slice.High8 = Width.B
slice_width Slice.Low16 = Width.W
slice_width Slice.All = Width.L

abbrev pub class_of : LineOperand → Class
class_of (LineOperand.Register place slice count) = Class.Register (slice_width slice) count
class_of (LineOperand.Immediate d) = Class.Number
class_of (LineOperand.Memory k form) = Class.Memory
class_of (LineOperand.Address d base index) = Class.Memory
class_of (LineOperand.Label goal) = Class.Label

abbrev pub width_bytes : Width → ℕ
width_bytes Width.B = 1
width_bytes Width.W = 2
width_bytes Width.L = 4
width_bytes Width.Q = 8

abbrev pub same_width : Width → Width → Bool
same_width v w = width_bytes v == width_bytes w

abbrev pub allows_register : Allowed → Bool
allows_register Allowed.Register = true
allows_register Allowed.RegisterOrMemory = true
allows_register Allowed.RegisterMemoryOrNumber = true
allows_register Allowed.RegisterOrNumber = true
allows_register Allowed.Memory = false
allows_register Allowed.Number = false
allows_register Allowed.Count = false
allows_register Allowed.Label = false

abbrev pub allows_memory : Allowed → Bool
allows_memory Allowed.Memory = true
allows_memory Allowed.RegisterOrMemory = true
allows_memory Allowed.RegisterMemoryOrNumber = true
allows_memory Allowed.Register = false
allows_memory Allowed.Number = false
allows_memory Allowed.RegisterOrNumber = false
allows_memory Allowed.Count = false
allows_memory Allowed.Label = false

abbrev pub allows_number : Allowed → Bool
allows_number Allowed.Number = true
allows_number Allowed.RegisterMemoryOrNumber = true
allows_number Allowed.RegisterOrNumber = true
allows_number Allowed.Count = true
allows_number Allowed.Register = false
allows_number Allowed.Memory = false
allows_number Allowed.RegisterOrMemory = false
allows_number Allowed.Label = false

abbrev pub allows_cl : Allowed → Bool
allows_cl Allowed.Count = true
allows_cl Allowed.Register = false
allows_cl Allowed.Memory = false
allows_cl Allowed.Number = false
allows_cl Allowed.RegisterOrMemory = false
allows_cl Allowed.RegisterMemoryOrNumber = false
allows_cl Allowed.RegisterOrNumber = false
allows_cl Allowed.Label = false

abbrev pub allows_label : Allowed → Bool
allows_label Allowed.Label = true
allows_label Allowed.Register = false
allows_label Allowed.Memory = false
allows_label Allowed.Number = false
allows_label Allowed.RegisterOrMemory = false
allows_label Allowed.RegisterMemoryOrNumber = false
allows_label Allowed.RegisterOrNumber = false
allows_label Allowed.Count = false

-- an operand of that class may stand there; a register has the size w
abbrev pub allows : Allowed → Width → Class → Bool
allows a w (Class.Register v count) = (allows_register a && same_width v w) || (allows_cl a && count)
allows a w Class.Memory = allows_memory a
allows a w Class.Number = allows_number a
allows a w Class.Label = allows_label a

abbrev pub width_or : Option Width → Width → Width
width_or None w = w
width_or (Some v) w = v

abbrev pub slot_allows : Width → Slot → Class → Bool
slot_allows w slot c = allows slot.allowed (width_or slot.width w) c

-- the operands are as many as the places, and each may stand in its place
abbrev pub all_stand : Width → List (Option Slot) → List Class → Bool
all_stand w [] [] = true
all_stand w [] (c ∷ cs) = false
all_stand w (None ∷ slots) [] = true
all_stand w (None ∷ slots) (c ∷ cs) = false
all_stand w (Some slot ∷ slots) [] = false
all_stand w (Some slot ∷ slots) (c ∷ cs) = slot_allows w slot c && all_stand w slots cs

abbrev pub is_memory : Class → Bool
is_memory Class.Memory = true
is_memory (Class.Register w count) = false
is_memory Class.Number = false
is_memory Class.Label = false

-- a register in a place that has the instruction's size
abbrev pub sized_by : Slot → Class → Option Width
sized_by slot (Class.Register w count) = if allows_register slot.allowed && not (is_some slot.width) then Some w else None
sized_by slot Class.Memory = None
sized_by slot Class.Number = None
sized_by slot Class.Label = None

abbrev pub first_of_two : {A : Type 0} → Option A → Option A → Option A
first_of_two None other = other
first_of_two (Some x) other = Some x

-- the size of the first such register
abbrev pub register_width : List (Option Slot) → List Class → Option Width
register_width (Some slot ∷ slots) (c ∷ cs) = first_of_two (sized_by slot c) (register_width slots cs)
register_width slots cs = None

abbrev pub has_suffix : Suffixes → Width → Bool
has_suffix Suffixes.None w = false
has_suffix Suffixes.B w = same_width w Width.B
has_suffix Suffixes.L w = same_width w Width.L
has_suffix Suffixes.Wl w = same_width w Width.W || same_width w Width.L
has_suffix Suffixes.Bwl w = same_width w Width.B || (same_width w Width.W || same_width w Width.L)

abbrev pub if_suffix : Suffixes → Option Width → Option Width
if_suffix suffixes None = None
if_suffix suffixes (Some w) = if has_suffix suffixes w then Some w else None

-- the instruction's size: that of the suffix, else that of the row, else that of a register
abbrev pub size_in : NameRow → Option Width → List Class → Option Width
size_in row (Some suffix) cs = if_suffix row.suffixes (Some suffix)
size_in row None cs = first_of_two row.width (if_suffix row.suffixes (register_width row.slots cs))

-- the row's name without the zeros behind it
abbrev pub name_end : List ℕ → ℕ
name_end name = unwrap_or (position (λ c. c == 0) name) (length name)

abbrev pub row_name : NameRow → List ℕ
row_name row = take (name_end row.name) row.name

abbrev pub with_condition : Operation → List ℕ → Option Op
with_condition (Operation.Of op) rest = if length rest == 0 then Some op else None
with_condition Operation.Cmov rest = option_map Op.Cmov (cond_named rest)
with_condition Operation.Set rest = option_map Op.Set (cond_named rest)
with_condition Operation.Jump rest = option_map Op.J (cond_named rest)

-- what a name stands for in a row: the row's name, with a condition behind it where the row has one
abbrev pub op_in : NameRow → List ℕ → Option Op
op_in row name =
    let n = length (row_name row) in
    if same_name (take n name) (row_name row) then with_condition row.operation (drop n name) else None

abbrev pub choice : NameRow → Option Op → Option Width → List Class → Option Choice
choice row (Some op) (Some w) cs = if all_stand w row.slots cs && nat_le (count_by is_memory cs) 1 then Some (record { row = row; op = op; width = w }) else None
choice row op w cs = None

-- the row, where it has the name and may have the operands
abbrev pub choice_in : List ℕ → Option Width → List Class → NameRow → Option Choice
choice_in name suffix cs row = choice row (op_in row name) (size_in row suffix cs) cs

abbrev pub first_choice : List ℕ → Option Width → List Class → List NameRow → Option Choice
first_choice name suffix cs [] = None
first_choice name suffix cs (row ∷ rows) = first_of_two (choice_in name suffix cs row) (first_choice name suffix cs rows)

-- `b`, `w`, `l`
abbrev pub suffix_width : ℕ → Option Width
suffix_width c = if c == 98 then Some Width.B else if c == 119 then Some Width.W else if c == 108 then Some Width.L else None

abbrev pub suffixed_choice : List NameRow → List ℕ → List Class → Option Width → Option Choice
suffixed_choice rows name cs None = None
suffixed_choice rows name cs (Some w) = first_choice name (Some w) cs rows

-- the first row of the whole name, else of the name with a suffix
unfoldable pub choice_of : List NameRow → List ℕ → List Class → Option Choice
choice_of rows name cs =
    let n = length name - 1 in
    first_of_two (first_choice name None cs rows) (suffixed_choice rows (take n name) cs (suffix_width (slice_index name n)))

-- the operand that `lock` wants in memory is there
abbrev pub lock_fits : Option ℕ → List Class → Bool
lock_fits None cs = false
lock_fits (Some j) cs = count_by is_memory (take 1 (drop j cs)) == 1

abbrev pub prefixed : Repeat → Bool → Option Prefixed
prefixed repeat lock = Some (record { repeat = repeat; lock = lock })

abbrev pub one_prefix : NameRow → List Class → Prefix → Option Prefixed
one_prefix row cs Prefix.Lock = if lock_fits row.lock cs then prefixed Repeat.No true else None
one_prefix row cs Prefix.Rep = option_and_then (λ repeat. prefixed repeat false) row.rep
one_prefix row cs Prefix.Repe = if row.compares then prefixed Repeat.Repe false else None
one_prefix row cs Prefix.Repne = if row.compares then prefixed Repeat.Repne false else None

-- at most one may stand before an instruction
abbrev pub prefixes_fit : NameRow → List Class → List Prefix → Option Prefixed
prefixes_fit row cs [] = prefixed Repeat.No false
prefixes_fit row cs (p ∷ []) = one_prefix row cs p
prefixes_fit row cs (p ∷ q ∷ ps) = None
