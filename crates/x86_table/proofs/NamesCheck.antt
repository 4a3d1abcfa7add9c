-- Each line of the table of names fits the rows of its operations: whatever operands it may have, they have the bytes that are
-- read and written there.
use Rattle.std.proofs.Common.{◌≡◌, ℕ, ◌+◌, ◌==◌, nat_le, ◌&&◌, ◌||◌, not, List, [], ◌∷◌, ◌++◌, map, slice_get, Bool, true, false, if◌then◌else◌, Option, None, Some, refl}
use Rattle.std.specs.List.{list_all}
use Rattle.asm_core.specs.MicroOps.{first_of, count_of}
use Rattle.asm_core.specs.Reading.Chosen.{Class, width_bytes, same_width, slot_allows, has_suffix}
use Rattle.asm_core.specs.Reading.Names.{names}
use Rattle.asm_core.specs.RowLaws.{byte_count, target_count}
use Rattle.asm_core.specs.RowTerms.{repeated}
use Rattle.asm_core.specs.Table.{row_of}
use Rattle.asm_core.specs.declared.cond.Cond.{Cond}
use Rattle.asm_core.specs.declared.cond.Cond.TheVariants as conds
use Rattle.asm_core.specs.declared.inst.Op.{Op}
use Rattle.asm_core.specs.declared.inst.Repeat.{Repeat}
use Rattle.asm_core.specs.declared.inst.Width.{Width}
use Rattle.asm_core.specs.declared.micro_op.Bytes.{Bytes}
use Rattle.asm_core.specs.declared.micro_op.Function.{Function}
use Rattle.asm_core.specs.declared.micro_op.Input.{Input}
use Rattle.asm_core.specs.declared.micro_op.MicroOp.{MicroOp}
use Rattle.asm_core.specs.declared.micro_op.Site.{Site}
use Rattle.asm_core.specs.declared.micro_op.Target.{Target}
use Rattle.asm_core.specs.declared.names.NameRow.{NameRow}
use Rattle.asm_core.specs.declared.names.Operation.{Operation}
use Rattle.asm_core.specs.declared.names.Slot.{Slot}

-- ---- an operand

-- a register of that size has the bytes
abbrev pub has_bytes : Width → Width → Bytes → Bool
has_bytes w v Bytes.Whole = width_bytes v == count_of w Bytes.Whole
has_bytes w v bytes = nat_le (first_of bytes + count_of w bytes) (width_bytes v)

abbrev pub class_has : Width → Bytes → Class → Bool
class_has w bytes (Class.Register v count) = has_bytes w v bytes
class_has w bytes Class.Number = first_of bytes == 0
class_has w bytes Class.Memory = true
class_has w bytes Class.Label = true

abbrev pub widths : List Width
widths = Width.B ∷ Width.W ∷ Width.L ∷ Width.Q ∷ []

abbrev pub classes : List Class
classes = map (λ v. Class.Register v true) widths ++ map (λ v. Class.Register v false) widths ++ Class.Memory ∷ Class.Number ∷ Class.Label ∷ []

-- where a class may stand it has the bytes
abbrev pub slot_has : Width → Bytes → Option Slot → Bool
slot_has w bytes None = true
slot_has w bytes (Some slot) = list_all (λ c. not (slot_allows w slot c) || class_has w bytes c) classes

abbrev pub place_has : Width → Bytes → Option (Option Slot) → Bool
place_has w bytes None = true
place_has w bytes (Some slot) = slot_has w bytes slot

-- ---- a row of micro-operations

abbrev pub site_has : Width → List (Option Slot) → Site → Bool
site_has w slots (Site.Argument k bytes) = place_has w bytes (slice_get slots k)
site_has w slots site = true

abbrev pub target_has : Width → List (Option Slot) → Target → Bool
target_has w slots (Target.Site site) = site_has w slots site
target_has w slots target = true

abbrev pub input_has : Width → List (Option Slot) → Function → Input → ℕ → Bool
input_has w slots Function.Copy (Input.Read site) count = site_has w slots site && nat_le count (byte_count w site)
input_has w slots Function.Copy Input.Top count = nat_le count 4
input_has w slots Function.Set (Input.Number n) count = nat_le n 1
input_has w slots f x count = true

abbrev pub op_has : Width → List (Option Slot) → MicroOp → Bool
op_has w slots op = target_has w slots op.target && input_has w slots op.function op.x (target_count w op.target)

-- ---- a line of the table of names

abbrev pub conditions : List Cond
conditions =
    conds.O ∷ conds.No ∷ conds.B ∷ conds.Ae ∷ conds.E ∷ conds.Ne ∷ conds.Be ∷ conds.A ∷ conds.S ∷ conds.Ns ∷ conds.P ∷ conds.Np ∷ conds.L ∷ conds.Ge ∷ conds.Le ∷ conds.G ∷ []

-- what the spelling may stand for
abbrev pub operations_of : Operation → List Op
operations_of (Operation.Of op) = op ∷ []
operations_of Operation.Cmov = map Op.Cmov conditions
operations_of Operation.Set = map Op.Set conditions
operations_of Operation.Jump = map Op.J conditions

-- a size that its instructions may have: of the row, or of a suffix
abbrev pub may_be : NameRow → Width → Bool
may_be r w = has_suffix r.suffixes w || elim r.width [ None ↦ false | Some v ↦ same_width v w ]

-- what prefixes make of it
abbrev pub repeats_of : NameRow → List Repeat
repeats_of r = Repeat.No ∷ ((elim r.rep [ None ↦ [] | Some repeat ↦ repeat ∷ [] ]) ++ (if r.compares then Repeat.Repe ∷ Repeat.Repne ∷ [] else []))

-- how many operands it has
abbrev pub operand_count : List (Option Slot) → ℕ
operand_count [] = 0
operand_count (None ∷ slots) = 0
operand_count (Some slot ∷ slots) = 1 + operand_count slots

-- a prefix that repeats stands before no operands
abbrev pub is_plain : Repeat → ℕ → Bool
is_plain Repeat.No n = true
is_plain Repeat.Rep n = n == 0
is_plain Repeat.Repe n = n == 0
is_plain Repeat.Repne n = n == 0

abbrev pub repeat_has : NameRow → Width → Op → Repeat → Bool
repeat_has r w op repeat = is_plain repeat (operand_count r.slots) && list_all (op_has w r.slots) (repeated repeat (row_of op w (operand_count r.slots)))

abbrev pub width_has : NameRow → Width → Bool
width_has r w = not (may_be r w) || list_all (λ op. list_all (repeat_has r w op) (repeats_of r)) (operations_of r.operation)

abbrev pub row_has : NameRow → Bool
row_has r = list_all (width_has r) widths

-- the whole table
pub names_have : list_all row_has names ≡ true
names_have = refl
