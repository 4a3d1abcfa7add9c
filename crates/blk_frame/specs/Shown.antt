-- Placements and states as the facts speak of them. This project's own.
use Rattle.std.specs.Prelude.{◌≡◌, ℕ, ◌+◌, ◌-◌, ◌/◌, ◌%◌, ◌^◌, ◌==◌, ◌<◌, ◌&&◌, nat_lt, Bool, true, false, List, [], is_some, if◌then◌else◌, slice_index, Option, None, Some}
use Rattle.std.specs.List.{list_any}
use Rattle.asm_core.specs.Reg.{reg_number}
use Rattle.asm_core.specs.Flag.{flag_number}
use Rattle.asm_core.specs.Placement.{spot_of, address_registers}
use Rattle.asm_core.specs.Reading.Placed.{placed_place}
use Rattle.asm_core.specs.RowLaws as laws
use Rattle.asm_core.specs.RowLaws.{Component, component_in}
use Rattle.asm_core.specs.declared.reg.Reg.{Reg}
use Rattle.asm_core.specs.declared.sym.Place.{Place}
use Rattle.asm_core.specs.declared.shape.Shape.{Shape}
use Rattle.asm_core.specs.declared.interface.Interface.{Interface}
use Rattle.asm_core.specs.declared.placement.Spot.{Spot}
use Rattle.asm_core.specs.declared.placement.Placement.{Placement}
use Rattle.asm_core.specs.declared.machine.Machine.{Machine}
use Rattle.blk_deps.specs.Cells.{place_at, flag_cell, place_of, byte_of}
use Rattle.blk_deps.specs.Operands.{is_place}
use Rattle.blk_frame.specs.World.{Placed, World, is_register_byte}

-- ---- placements

abbrev pub place_register : Place → Option Reg
place_register (Place.Reg r) = Some r
place_register (Place.Operand k) = None

-- the register of a place: of a pair that has no other place, eax
abbrev pub register_under : Placement → ℕ → Option Reg
register_under p u = place_register (placed_place p (place_at u))

abbrev pub number_or : Option Reg → ℕ
number_or None = 7
number_or (Some r) = reg_number r

abbrev pub address_under : Placement → Place → List Reg
address_under p (Place.Reg r) = []
address_under p (Place.Operand k) = address_registers (spot_of p k)

abbrev pub is_memory_spot : Spot → Bool
is_memory_spot (Spot.Memory form) = true
is_memory_spot spot = false

abbrev pub is_memory_place : Placement → Place → Bool
is_memory_place p (Place.Reg r) = false
is_memory_place p (Place.Operand k) = is_memory_spot (spot_of p k)

abbrev pub is_numbered : ℕ → List Reg → Bool
is_numbered q rs = list_any (λ r. reg_number r == q) rs

-- where a placement puts the places of a shape
abbrev pub placed_by : Interface → Shape → Placement → Placed
placed_by i s p = record {
  in_register = λ u. is_place i s u && is_some (register_under p u);
  register_of = λ u. if is_place i s u then number_or (register_under p u) else 7;
  is_address = λ u. is_place i s u && is_memory_place p (place_at u);
  has = λ u q. is_place i s u && (if is_some (register_under p u) then q == number_or
      (register_under p u) else is_numbered q (address_under p (place_at u)));
}

-- ---- states

-- what a world holds of a register's byte, a flag or a byte of a pushed word
abbrev pub shown : World → Component → ℕ
shown w (Component.RegisterByte r j) = w.registers (reg_number r) j
shown w (Component.FlagBit f) = w.cells (flag_cell f)
shown w (Component.ScratchByte j) = w.cells (154 + j)
shown w c = 0

-- the four bytes of registers, the flags but DF, and the bytes of 16 pushed words
abbrev pub IsSeen : Component → Type 0
IsSeen (Component.RegisterByte r j) = j < 4
IsSeen (Component.FlagBit f) = flag_number f < 6
IsSeen (Component.ScratchByte j) = j < 64
IsSeen c = ⊥

-- The state has what the world has.
pub record Shows (m : Machine) (w : World) : Type 0 where
  pub each : (c : Component) → IsSeen c → shown w c ≡ component_in c m

-- A state as a world: each cell has what is where it is.
abbrev pub register_byte : Machine → ℕ → ℕ → ℕ
register_byte m q b = laws.byte_of b (slice_index m.regs q)

abbrev pub plain_value : Machine → ℕ → ℕ
plain_value m c = if nat_lt c 154 then (if nat_lt c 148 then 0 else m.flags.0 / 2 ^
    (c - 148) % 2) else slice_index m.scratch (c - 154)

abbrev pub world_of : Placed → Machine → World
world_of x m = record {
  registers = register_byte m;
  cells = λ c. if is_register_byte x c then register_byte m (x.register_of (place_of c))
      (byte_of c) else plain_value m c;
}
