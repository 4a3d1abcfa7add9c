-- Stores of a line: what it writes to memory lies within the stores that it is said to make.
use Rattle.std.specs.Prelude.{◌≡◌, ℕ, ◌+◌, ◌≤◌, true, Option, None, Some}
use Rattle.asm_core.specs.Lists.{IsMember}
use Rattle.asm_core.specs.Entries.{line_arg, memory_arg}
use Rattle.asm_core.specs.declared.inst.Op.{Op}
use Rattle.asm_core.specs.declared.sym.Arg.{Arg}
use Rattle.asm_core.specs.declared.sym.Sym.{Sym}
use Rattle.asm_core.specs.declared.row.Access.{Access}
use Rattle.asm_core.specs.declared.row.Write.{Write}
use Rattle.asm_core.specs.declared.row.Written.{Written}
use Rattle.blk_deps.specs.Line.{writes_in, accesses_in}

-- a store to the memory has so many bytes at least
pub record IsStored (line : Sym) (to : Arg) (size : ℕ) : Type 0 where
  pub access : Access
  pub is_access : IsMember access (accesses_in line)
  pub store : access.store ≡ true
  pub there : access.to ≡ to
  pub within : size ≤ access.bytes

abbrev pub IsWithin : Sym → Arg → ℕ → Type 0
IsWithin line (Arg.Memory k) size = IsStored line (Arg.Memory k) size
IsWithin line (Arg.Address disp base index) size = IsStored line (Arg.Address disp base index) size
IsWithin line arg size = Unit {0}

-- what is written to a register, a flag or the stack is no store
abbrev pub IsStoredWhole : Sym → Written → ℕ → Type 0
IsStoredWhole line (Written.Arg arg) size = IsWithin line arg size
IsStoredWhole line to size = Unit {0}

-- each write to memory lies within a store of the line
pub record StoresWhole (line : Sym) : Type 0 where
  pub each : (w : Write) → IsMember w (writes_in line) → IsStoredWhole line w.to (w.first + w.count)

-- the operand that an operation writes in parts
abbrev pub parted : Op → Option ℕ
parted Op.Movzbw = Some 1
parted Op.Movzbl = Some 1
parted Op.Movzwl = Some 1
parted Op.Movsbw = Some 1
parted Op.Movsbl = Some 1
parted Op.Movswl = Some 1
parted Op.Bswap = Some 0
parted op = None

-- what is written in parts is no memory, since the parts count as stores of their own sizes
pub record PartsNoMemory (line : Sym) : Type 0 where
  pub each : (k : ℕ) → parted line.op ≡ Some k → memory_arg (line_arg line k) ≡ None
