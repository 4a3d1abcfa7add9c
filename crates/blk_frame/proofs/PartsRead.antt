-- No line of the table of names writes memory in parts.
use Rattle.std.proofs.Common.{◌≡◌, ℕ, zero, suc, not, List, [], ◌∷◌, map, Bool, true, Option, None, Some, slice_get, refl, sym, ap, subst, ◌∙◌}
use Rattle.std.specs.List.{list_all}
use Rattle.std.proofs.lemmas.Bool.{both_ways, and_parts, not_from_true}
use Rattle.asm_core.specs.Entries.{arg_or_zero, line_arg, memory_arg}
use Rattle.asm_core.specs.Reading.Chosen.{allows_memory, class_of, slot_allows, all_stand}
use Rattle.asm_core.specs.Reading.Line.{arg_of, sym_of}
use Rattle.asm_core.specs.Reading.Names.{names}
use Rattle.asm_core.specs.declared.inst.Width.{Width}
use Rattle.asm_core.specs.declared.names.NameRow.{NameRow}
use Rattle.asm_core.specs.declared.names.Slot.{Slot}
use Rattle.asm_core.specs.declared.reading.Line.{Line}
use Rattle.asm_core.specs.declared.reading.LineOperand.{LineOperand}
use Rattle.asm_core.specs.declared.sym.Disp.{Disp}
use Rattle.asm_core.specs.declared.sym.Sym.{Sym}
use Rattle.x86_table.proofs.LinesFit.{IsOfTable}
use Rattle.x86_table.proofs.NamesCheck.{operations_of}
use Rattle.x86_table.proofs.NamesFit.{IsOfRow, all_at}
use Rattle.blk_frame.specs.Stores.{StoresWhole, parted, PartsNoMemory}
use Rattle.blk_frame.proofs.OpStores.{stores_whole}

-- ---- the table

abbrev is_no_memory : Option (Option Slot) → Bool
is_no_memory (Some (Some slot)) = not (allows_memory slot.allowed)
is_no_memory slot = true

abbrev parts_there : List (Option Slot) → Option ℕ → Bool
parts_there slots (Some k) = is_no_memory (slice_get slots k)
parts_there slots None = true

abbrev row_parts : NameRow → Bool
row_parts r = list_all (λ op. parts_there r.slots (parted op)) (operations_of r.operation)

names_parts : list_all row_parts names ≡ true
names_parts = refl

-- ---- its lines

module _ (count : ℕ) (w : Width) where
  operand_apart : (slot : Slot) (o : LineOperand) → not (allows_memory slot.allowed) ≡ true
      → slot_allows w slot (class_of o) ≡ true → memory_arg (arg_of count o) ≡ None
  operand_apart slot (LineOperand.Register place slice is_count) none stands = refl
  operand_apart slot (LineOperand.Immediate (Disp.Number n)) none stands = refl
  operand_apart slot (LineOperand.Immediate (Disp.Hole k)) none stands = refl
  operand_apart slot (LineOperand.Memory k form) none stands = absurd (both_ways _
      (not_from_true (allows_memory slot.allowed) stands) none)
  operand_apart slot (LineOperand.Address d base index) none stands = absurd (both_ways _
      (not_from_true (allows_memory slot.allowed) stands) none)
  operand_apart slot (LineOperand.Label goal) none stands = refl

  place_apart : (k : ℕ) (slots : List (Option Slot)) (os : List LineOperand)
      → all_stand w slots (map class_of os) ≡ true → is_no_memory (slice_get slots k) ≡ true
      → memory_arg (arg_or_zero (slice_get (map (arg_of count) os) k)) ≡ None
  place_apart k [] [] stand none = by k
    where
      by : (k : ℕ) → memory_arg (arg_or_zero (slice_get (map (arg_of count) []) k)) ≡ None
      by k = refl
  place_apart k [] (o ∷ os) stand none = cc
  place_apart k (None ∷ slots) [] stand none = refl
  place_apart k (None ∷ slots) (o ∷ os) stand none = cc
  place_apart k (Some slot ∷ slots) [] stand none = cc
  place_apart zero (Some slot ∷ slots) (o ∷ os) stand none = operand_apart slot o none
      (and_parts (slot_allows w slot (class_of o)) (all_stand w slots (map class_of os)) stand).0
  place_apart (suc k) (Some slot ∷ slots) (o ∷ os) stand none = place_apart k slots os
      (and_parts (slot_allows w slot (class_of o)) (all_stand w slots (map class_of os)) stand).1 none

line_parts : (count : ℕ) (l : Line) → IsOfRow l → PartsNoMemory (sym_of count l)
line_parts count l of_row = record { each = each }
  where
    each : (k : ℕ) → parted l.op ≡ Some k → memory_arg (line_arg (sym_of count l) k) ≡ None
    each k is = place_apart count of_row.choice.width k of_row.choice.row.slots l.operands of_row.chosen.stand
        (ap (parts_there of_row.choice.row.slots) (sym (ap parted (sym of_row.op) ∙ is))
        ∙ all_at (λ op. parts_there of_row.choice.row.slots (parted op)) of_row.choice.op
        (operations_of of_row.choice.row.operation) (all_at row_parts of_row.choice.row names names_parts
        of_row.chosen.there) of_row.chosen.operation)

pub parts_no_memory : (line : Sym) → IsOfTable line → PartsNoMemory line
parts_no_memory line is = subst PartsNoMemory is.of_line (line_parts is.count is.line is.of_row)

-- each line that is read stores whole what it writes to memory
pub read_stores_whole : (line : Sym) → IsOfTable line → StoresWhole line
read_stores_whole line is = stores_whole line (parts_no_memory line is)
