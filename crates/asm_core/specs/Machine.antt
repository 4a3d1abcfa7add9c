-- The state of a block: registers, flags, ranges of bytes, the scratch stack and the position.
use Rattle.std.specs.Prelude.{◌≡◌, ◌≢◌, ℕ, ◌+◌, ◌-◌, ◌*◌, ◌%◌, ◌^◌, ◌<◌, ◌≤◌, nat_lt, nat_le, ◌&&◌, List, [], ◌∷◌, length, map, All, Bool, IsTrue, Option, Some, slice_get, slice_index, slice_set, if◌then◌else◌}
use Rattle.asm_core.specs.Reg.{reg_number}
use Rattle.asm_core.specs.Flag.{flag_in}
use Rattle.asm_core.specs.declared.reg.Reg.{Reg}
use Rattle.asm_core.specs.declared.flag.Flag.{Flag}
use Rattle.asm_core.specs.declared.machine.Range.{Range}
use Rattle.asm_core.specs.declared.machine.Machine.{Machine}

abbrev pub reg_in : Reg → Machine → ℕ
reg_in r m = slice_index m.regs (reg_number r)

abbrev pub with_reg : Reg → ℕ → Machine → Machine
with_reg r v m = record m { regs = slice_set m.regs (reg_number r) v }

-- the address lies in the range
abbrev pub covers : Range → ℕ → Bool
covers r a = nat_le r.base a && nat_lt a (r.base + length r.bytes)

-- the byte at an address, 0 in no range
abbrev pub byte_at : List Range → ℕ → ℕ
byte_at [] a = 0
byte_at (r ∷ rs) a = if covers r a then slice_index r.bytes (a - r.base) else byte_at rs a

-- where the bytes of a range are, and how they may be reached
pub record Layout : Type 0 where
  pub base : ℕ
  pub size : ℕ
  pub writable : Bool
  pub owner : Option ℕ

abbrev pub layout_of : Range → Layout
layout_of r = record { base = r.base; size = length r.bytes; writable = r.writable; owner = r.owner }

-- the ranges without what they hold
abbrev pub layouts_of : List Range → List Layout
layouts_of rs = map layout_of rs

-- the least address of the scratch
abbrev pub scratch_base : Machine → ℕ
scratch_base m = (m.esp + 4 * m.scratch_top + 2 ^ 32 - 64) % 2 ^ 32

-- the range has bytes, and it does not wrap
pub record IsRange (r : Range) : Type 0 where
  pub bytes : All (λ b. b < 256) r.bytes
  pub within : r.base + length r.bytes ≤ 2 ^ 32

-- no address lies in both
abbrev pub RangesApart : Range → Range → Type 0
RangesApart r q = (a : ℕ) → IsTrue (covers r a) → IsTrue (covers q a) → ⊥

-- the numbers are those of the fields' types, and the ranges are apart and don't wrap
pub record IsMachine (m : Machine) : Type 0 where
  pub reg_count : length m.regs ≡ 7
  pub regs : All (λ v. v < 2 ^ 32) m.regs
  pub esp : m.esp < 2 ^ 32
  pub flags : m.flags.0 < 128
  pub ranges : All IsRange m.ranges
  pub apart : (j k : ℕ) (r q : Range) → slice_get m.ranges j ≡ Some r → slice_get m.ranges k ≡ Some q → j ≢ k → RangesApart r q
  pub scratch_count : length m.scratch ≡ 64
  pub scratch : All (λ b. b < 256) m.scratch
  pub pushed : m.scratch_top ≤ 16
  pub at : m.at < 2 ^ 32

-- what a block can change and others can see: a register, a flag, the byte at an address, and esp
pub data Location : Type 0 where
  Register : (r : Reg) → Location
  FlagBit : (f : Flag) → Location
  Byte : (address : ℕ) → Location
  Esp : Location

-- a location's value in a state
abbrev pub value_at : Location → Machine → ℕ
value_at (Location.Register r) m = reg_in r m
value_at (Location.FlagBit f) m = if flag_in f m.flags then 1 else 0
value_at (Location.Byte a) m = byte_at m.ranges a
value_at Location.Esp m = m.esp

-- locations that may not change have the values they had, and the ranges are where they were
pub record Keeps (May : Location → Type 0) (before after : Machine) : Type 0 where
  pub values : (l : Location) → (May l → ⊥) → value_at l after ≡ value_at l before
  pub layouts : layouts_of after.ranges ≡ layouts_of before.ranges
