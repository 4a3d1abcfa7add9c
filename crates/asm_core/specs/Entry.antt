-- The states in which a block may begin.
use Rattle.std.specs.Prelude.{◌≡◌, ◌≢◌, ℕ, ◌+◌, ◌*◌, ◌%◌, ◌^◌, ◌<◌, ◌≤◌, List, length, false, IsTrue, Option, None, Some, slice_get}
use Rattle.asm_core.specs.Lists.{IsMember}
use Rattle.asm_core.specs.Placement.{spot_of, tie_root, is_output}
use Rattle.asm_core.specs.Shape.{shapes_of, IsLive}
use Rattle.asm_core.specs.Flag.{flag_in}
use Rattle.asm_core.specs.Machine.{reg_in, covers, scratch_base, IsMachine}
use Rattle.asm_core.specs.Memory.{modulo, address_of, word_at}
use Rattle.asm_core.specs.declared.reg.Reg.{Reg}
use Rattle.asm_core.specs.declared.flag.Flag.{Flag}
use Rattle.asm_core.specs.declared.shape.Kind.{Kind}
use Rattle.asm_core.specs.declared.shape.Shape.{Shape}
use Rattle.asm_core.specs.declared.interface.OperandIface.{OperandIface}
use Rattle.asm_core.specs.declared.interface.Interface.{Interface}
use Rattle.asm_core.specs.declared.placement.Form.{Form}
use Rattle.asm_core.specs.declared.placement.Spot.{Spot}
use Rattle.asm_core.specs.declared.placement.Placement.{Placement}
use Rattle.asm_core.specs.declared.machine.Range.{Range}
use Rattle.asm_core.specs.declared.machine.Machine.{Machine}

-- the value of an operand of that size at that spot, the addresses being those of the entry
abbrev pub spot_value : Spot → ℕ → Machine → Machine → ℕ
spot_value (Spot.Register r) size entry m = reg_in r m % 2 ^ (8 * size)
spot_value Spot.Pair size entry m = reg_in Reg.Eax m + 2 ^ 32 * reg_in Reg.Edx m
spot_value (Spot.Memory form) size entry m = word_at size (address_of form entry) m.ranges
spot_value (Spot.Number n) size entry m = modulo n (8 * size)

-- operand k is memory in one live shape and of another kind in another one
pub record IsChanging (i : Interface) (k : ℕ) : Type 0 where
  pub in_memory : (s : Shape) × IsMember s (shapes_of i) × IsLive i s × (slice_get s.kinds k ≡ Some Kind.Memory)
  pub elsewhere : (s : Shape) × IsMember s (shapes_of i) × IsLive i s × (slice_get s.kinds k ≢ Some Kind.Memory)

-- operand k, not tied to another, is the object of that size at that address
pub record HasObject (i : Interface) (s : Shape) (p : Placement) (entry : Machine) (k : ℕ) (o : OperandIface) (address : ℕ) : Type 0 where
  pub is_operand : slice_get i.operands k ≡ Some o
  pub untied : tie_root i s k ≡ k
  pub in_memory : (form : Form) × (spot_of p k ≡ Spot.Memory form) × (address ≡ address_of form entry)

-- the range holds the byte at an address of an operand's object, writable where the operand is an output
pub record HoldsObjectByte (o : OperandIface) (a : ℕ) (owner : Option ℕ) (rs : List Range) : Type 0 where
  pub range : Range
  pub is_range : IsMember range rs
  pub holds : IsTrue (covers range a)
  pub owned : range.owner ≡ owner
  pub writable : IsTrue (is_output o.role) → IsTrue range.writable

-- A state in which the block may begin under a placement. What is not said is free.
pub record IsEntry (i : Interface) (s : Shape) (p : Placement) (m : Machine) : Type 0 where
  pub machine : IsMachine m
  pub start : m.at ≡ 0
  pub nothing_pushed : m.scratch_top ≡ 0
  pub direction : flag_in Flag.Df m.flags ≡ false
  pub scratch_within : scratch_base m + 64 ≤ 2 ^ 32
  pub scratch_apart : (r : Range) (a : ℕ) → IsMember r m.ranges → scratch_base m ≤ a → a < scratch_base m + 64 → covers r a ≡ false
  -- each object lies in ranges: a changing operand's in its own, the others' in ranges without an owner
  pub objects : (k : ℕ) (o : OperandIface) (address j : ℕ) → HasObject i s p m k o address → j < o.size
      → ((IsChanging i k → ⊥) → HoldsObjectByte o ((address + j) % 2 ^ 32) None m.ranges) × (IsChanging i k → HoldsObjectByte o ((address + j) % 2 ^ 32) (Some k) m.ranges)
  -- an owned range is its operand's object, and the operand is a changing one
  pub owned : (r : Range) (k : ℕ) → IsMember r m.ranges → r.owner ≡ Some k
      → IsChanging i k × ((o : OperandIface) × HasObject i s p m k o r.base × (length r.bytes ≡ o.size))
