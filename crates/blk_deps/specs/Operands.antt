-- What the operands of a statement are under a shape: at which places, of what class each byte of a place is, and which memory isn't seen.
-- None of it speaks of clobbers, early marks or single placements, but `is_unseen` and `is_changing`. This project's own.
use Rattle.std.specs.Prelude.{ℕ, ◌+◌, ◌-◌, ◌==◌, ◌&&◌, ◌||◌, nat_lt, nat_le, not, Bool, true, false, List, [], ◌∷◌, filter, find, is_some, Option, None, Some, slice_get, if◌then◌else◌, ◌≤◌, IsTrue}
use Rattle.std.specs.List.{list_any, list_all}
use Rattle.asm_core.specs.Lists.{count_from, IsMember}
use Rattle.asm_core.specs.Shape.{shapes_of}
use Rattle.asm_core.specs.Placement.{tie_root, is_output, is_input}
use Rattle.asm_core.specs.Company.{places_of, held_at}
use Rattle.asm_core.specs.declared.shape.Kind.{Kind}
use Rattle.asm_core.specs.declared.shape.Shape.{Shape}
use Rattle.asm_core.specs.declared.company.Held.{Held}
use Rattle.asm_core.specs.declared.company.Places.{Places}
use Rattle.asm_core.specs.declared.sym.Place.{Place}
use Rattle.asm_core.specs.declared.interface.Role.{Role}
use Rattle.asm_core.specs.declared.interface.OperandIface.{OperandIface}
use Rattle.asm_core.specs.declared.interface.Interface.{Interface}
use Rattle.asm_core.specs.declared.finding.Cell.{Cell}
use Rattle.blk_deps.specs.Cells.{reg_at, place_at, place_of, byte_of}

-- ---- kinds and roles

abbrev is_register_kind : Option Kind → Bool
is_register_kind (Some Kind.Register) = true
is_register_kind kind = false

abbrev is_memory_kind : Option Kind → Bool
is_memory_kind (Some Kind.Memory) = true
is_memory_kind kind = false

abbrev pub in_register : Shape → ℕ → Bool
in_register s k = is_register_kind (slice_get s.kinds k)

abbrev pub in_memory : Shape → ℕ → Bool
in_memory s k = is_memory_kind (slice_get s.kinds k)

-- operand k has this of its interface
abbrev pub operand_has : (OperandIface → Bool) → Interface → ℕ → Bool
operand_has test i k = elim (slice_get i.operands k) [ None ↦ false | Some o ↦ test o ]

abbrev pub is_output_at : Interface → ℕ → Bool
is_output_at = operand_has (λ o. is_output o.role)

abbrev pub is_input_at : Interface → ℕ → Bool
is_input_at = operand_has (λ o. is_input o.role)

-- in bytes
abbrev pub size_at : Interface → ℕ → ℕ
size_at i k = elim (slice_get i.operands k) [ None ↦ 0 | Some o ↦ o.size ]

abbrev pub numbers_in : Interface → List ℕ
numbers_in i = count_from 0 i.operands

-- ---- places

-- what of operand j, which is in a register, is at place p
abbrev pub held_in : Interface → Shape → ℕ → ℕ → Held
held_in i s p j = if in_register s j then held_at (place_at p) (places_of i s j) else Held.Nothing

abbrev pub is_held : Held → Bool
is_held Held.Nothing = false
is_held held = true

abbrev pub holds : Interface → Shape → ℕ → ℕ → Bool
holds i s p j = is_held (held_in i s p j)

-- the operands whose place p is, upwards
abbrev pub holders : Interface → Shape → ℕ → List ℕ
holders i s p = filter (holds i s p) (numbers_in i)

-- operand k has a place of its own: its letters, before clobbers are taken away, allow more than one register, and it isn't tied
abbrev pub is_own : ℕ → Places → Bool
is_own k (Places.One (Place.Operand j)) = k == j
is_own k places = false

abbrev pub is_root : Interface → Shape → ℕ → Bool
is_root i s k = tie_root i s k == k

abbrev pub has_own_register : Interface → Shape → ℕ → Bool
has_own_register i s k = (in_register s k && is_root i s k) && is_own k (places_of i s k)

-- the place is operand k's address: k is in memory and isn't tied
abbrev pub has_address : Interface → Shape → ℕ → Bool
has_address i s k = in_memory s k && is_root i s k

abbrev pub is_operand_place : Interface → Shape → ℕ → Bool
is_operand_place i s k = is_some (slice_get i.operands k) && (has_own_register i s k || has_address i s k)

-- the places of a shape: the registers, and operands that are anywhere in registers or in memory
abbrev pub is_place : Interface → Shape → ℕ → Bool
is_place i s p = nat_lt p 7 || is_operand_place i s (p - 7)

abbrev pub is_none_held : List ℕ → Bool
is_none_held [] = true
is_none_held (j ∷ js) = false

-- a register that is no operand's place
abbrev pub is_lone : Interface → Shape → ℕ → Bool
is_lone i s p = nat_lt p 7 && is_none_held (holders i s p)

-- a place of inputs alone
abbrev pub is_input_place : Interface → Shape → ℕ → Bool
is_input_place i s p = not (is_none_held (holders i s p)) && not (list_any (is_output_at i) (holders i s p))

-- Places are named by the least output there, else by the least input, else by the register.
abbrev pub first_output : Interface → List ℕ → List ℕ → Cell → Cell
first_output i js [] none = none
first_output i js (j ∷ rest) none = elim (find (is_output_at i) js) [ None ↦ Cell.Operand j | Some output ↦ Cell.Operand output ]

abbrev pub bare_name : ℕ → Cell
bare_name p = if nat_lt p 7 then Cell.Reg (reg_at p) else Cell.Operand (p - 7)

abbrev pub name_of : Interface → Shape → ℕ → Cell
name_of i s p = first_output i (holders i s p) (holders i s p) (bare_name p)

-- ---- bytes of places

-- which byte of an operand byte b of a place is
abbrev pub byte_held : Held → ℕ → ℕ
byte_held Held.High b = 4 + b
byte_held held b = b

-- the cell is a byte of operand j's value
abbrev pub covers : Interface → Shape → ℕ → ℕ → Bool
covers i s c j = holds i s (place_of c) j && nat_lt (byte_held (held_in i s (place_of c) j) (byte_of c)) (size_at i j)

abbrev pub is_input_byte : Interface → Shape → ℕ → Bool
is_input_byte i s c = list_any (λ j. covers i s c j && is_input_at i j) (numbers_in i)

-- of an output, and of no input
abbrev pub is_output_byte : Interface → Shape → ℕ → Bool
is_output_byte i s c = list_any (λ j. covers i s c j && is_output_at i j) (numbers_in i) && not (is_input_byte i s c)

-- at or above the size of each operand that is there
abbrev pub is_byte_above : Interface → Shape → ℕ → Bool
is_byte_above i s c = not (is_none_held (holders i s (place_of c))) && not (list_any (covers i s c) (numbers_in i))

-- ---- memory

-- some input is tied to operand k
abbrev pub has_tied : Interface → Shape → ℕ → Bool
has_tied i s k = list_any (λ j. not (j == k) && tie_root i s j == k) (numbers_in i)

abbrev pub is_written_only : Interface → Shape → ℕ → Bool
is_written_only i s k = not (is_input_at i k) && not (has_tied i s k)

-- memory in one live shape and of another kind in another
abbrev pub is_changing : List Shape → ℕ → Bool
is_changing live k = list_any (λ (s : Shape). in_memory s k) live && list_any (λ (s : Shape). not (in_memory s k)) live

-- Memory that is only written isn't seen, unless all memory is declared and the operand isn't changing.
abbrev pub is_unseen : Interface → List Shape → Shape → ℕ → Bool
is_unseen i live s k = (has_address i s k && is_written_only i s k) && (not i.memory || is_changing live k)

-- Memory that is only written has at most 64 bytes. The interface of each statement is so, since a greater one is outside the tables.
pub record IsSmall (i : Interface) : Type 0 where
  pub each : (s : Shape) (k : ℕ) → IsMember s (shapes_of i) → IsTrue (has_address i s k && is_written_only i s k) → size_at i k ≤ 64
