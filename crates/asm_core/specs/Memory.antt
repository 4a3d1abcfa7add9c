-- Addresses, and the values of several bytes of memory and of the scratch.
use Rattle.std.specs.Prelude.{ℕ, zero, suc, ◌+◌, ◌-◌, ◌*◌, ◌/◌, ◌%◌, ◌^◌, ◌==◌, nat_lt, ◌&&◌, ◌||◌, not, ℤ, pos, negsuc, List, map, Bool, true, false, Option, None, Some, slice_index, slice_set, if◌then◌else◌}
use Rattle.std.specs.List.{list_any}
use Rattle.asm_core.specs.Machine.{reg_in, byte_at, covers, scratch_base}
use Rattle.asm_core.specs.declared.reg.Reg.{Reg}
use Rattle.asm_core.specs.declared.placement.Base.{Base}
use Rattle.asm_core.specs.declared.placement.Form.{Form}
use Rattle.asm_core.specs.declared.machine.Range.{Range}
use Rattle.asm_core.specs.declared.machine.Machine.{Machine}

-- a number read modulo 2 to the width
abbrev pub modulo : ℤ → ℕ → ℕ
modulo (pos n) bits = n % 2 ^ bits
modulo (negsuc n) bits = 2 ^ bits - 1 - n % 2 ^ bits

abbrev pub base_in : Option Base → Machine → ℕ
base_in None m = 0
base_in (Some Base.Esp) m = m.esp
base_in (Some (Base.Reg r)) m = reg_in r m

abbrev pub index_in : Option (Reg × ℕ) → Machine → ℕ
index_in None m = 0
index_in (Some x) m = reg_in x.0 m * x.1

-- the address that a form gives
abbrev pub address_of : Form → Machine → ℕ
address_of form m = (modulo form.disp 32 + base_in form.base m + index_in form.index m) % 2 ^ 32

-- the n bytes from an address on as one number, the low byte first
abbrev pub word_at : ℕ → ℕ → List Range → ℕ
word_at zero a rs = 0
word_at (suc n) a rs = byte_at rs (a % 2 ^ 32) + 256 * word_at n (a + 1) rs

-- the range with that byte at the address, if it has the address
abbrev pub put_byte : ℕ → ℕ → Range → Range
put_byte a b r = if covers r a then record r { bytes = slice_set r.bytes (a - r.base) b } else r

abbrev pub with_byte : ℕ → ℕ → List Range → List Range
with_byte a b rs = map (put_byte a b) rs

-- the ranges with the n low bytes of a value from an address on
abbrev pub with_word : ℕ → ℕ → ℕ → List Range → List Range
with_word zero a v rs = rs
with_word (suc n) a v rs = with_word n (a + 1) (v / 256) (with_byte (a % 2 ^ 32) (v % 256) rs)

-- ---- accesses

-- a range without an owner is open to all, another one to its owner alone
abbrev pub is_open_to : Option ℕ → Option ℕ → Bool
is_open_to None through = true
is_open_to (Some k) (Some j) = k == j
is_open_to (Some k) None = false

-- the range lets an access through that operand, or through none, reach the address
abbrev pub lets_in : Option ℕ → Bool → ℕ → Range → Bool
lets_in through store a r = covers r a && is_open_to r.owner through && (not store || r.writable)

-- the address lies in the 64 bytes of the scratch
abbrev pub in_scratch : Machine → ℕ → Bool
in_scratch m a = nat_lt ((a + 2 ^ 32 - scratch_base m) % 2 ^ 32) 64

abbrev pub is_good_byte : Machine → Option ℕ → Bool → ℕ → Bool
is_good_byte m through store a = list_any (lets_in through store a) m.ranges && not (in_scratch m a)

-- each of the n bytes from an address on may be reached
abbrev pub is_good_access : Machine → Option ℕ → Bool → ℕ → ℕ → Bool
is_good_access m through store zero a = true
is_good_access m through store (suc n) a = is_good_byte m through store (a % 2 ^ 32) && is_good_access m through store n (a + 1)

-- ---- the scratch

-- the word of that number, the low byte first
abbrev pub scratch_word : List ℕ → ℕ → ℕ
scratch_word bytes n = slice_index bytes (4 * n) + 256 * slice_index bytes (4 * n + 1) + 65536 * slice_index bytes (4 * n + 2) + 16777216 * slice_index bytes (4 * n + 3)

abbrev pub with_scratch_word : List ℕ → ℕ → ℕ → List ℕ
with_scratch_word bytes n v = slice_set (slice_set (slice_set (slice_set bytes (4 * n) (v % 256)) (4 * n + 1) (v / 256 % 256)) (4 * n + 2) (v / 65536 % 256)) (4 * n + 3) (v / 16777216 % 256)
