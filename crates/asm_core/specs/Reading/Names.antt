-- The table of names: each spelling with the operands that it may have (Intel SDM volume 2, in AT&T syntax as GNU as reads
-- it). Which instructions there are is this project's own choice. A condition stands behind `cmov`, `set` and `j`.
use Rattle.std.specs.Prelude.{ℕ, ◌-◌, true, false, List, [], ◌∷◌, ◌++◌, length, replicate, codes, Option, None, Some}
use Rattle.asm_core.specs.declared.inst.Op.{Op}
use Rattle.asm_core.specs.declared.inst.Op.TheVariants as ops
use Rattle.asm_core.specs.declared.inst.Width.{Width}
use Rattle.asm_core.specs.declared.inst.Width.TheVariants.{B, W, L, Q}
use Rattle.asm_core.specs.declared.inst.Repeat.{Repeat}
use Rattle.asm_core.specs.declared.names.Operation.{Operation}
use Rattle.asm_core.specs.declared.names.Suffixes.{Suffixes}
use Rattle.asm_core.specs.declared.names.Allowed.{Allowed}
use Rattle.asm_core.specs.declared.names.Slot.{Slot}
use Rattle.asm_core.specs.declared.names.NameRow.{NameRow}

abbrev Slots : Type 0
Slots = List (Option Slot)

abbrev pub padded : List ℕ → List ℕ
padded name = name ++ replicate (9 - length name) 0

abbrev row : List ℕ → Operation → Suffixes → Option Width → Slots → NameRow
row name operation suffixes width slots = record {
  name = padded name;
  operation = operation;
  suffixes = suffixes;
  width = width;
  slots = slots;
  lock = None;
  rep = None;
  compares = false;
  left_out = false;
}

-- `lock` may stand before it, where that operand is in memory
abbrev locked : ℕ → NameRow → NameRow
locked j r = record r { lock = Some j }

-- what `rep` before it means
abbrev repeated : Repeat → NameRow → NameRow
repeated repeat r = record r { rep = Some repeat }

-- `repe` and `repne` may stand before it
abbrev compared : NameRow → NameRow
compared r = record r { compares = true }

abbrev left_out : NameRow → NameRow
left_out r = record r { left_out = true }

abbrev slot : Allowed → Option Width → Option Slot
slot allowed width = Some (record { allowed = allowed; width = width })

-- in the place of an operand: R a register, M memory, I a number, C a number or `%cl`, T a label
abbrev R : Option Slot
R = slot Allowed.Register None

abbrev M : Option Slot
M = slot Allowed.Memory None

abbrev I : Option Slot
I = slot Allowed.Number None

abbrev RM : Option Slot
RM = slot Allowed.RegisterOrMemory None

abbrev RI : Option Slot
RI = slot Allowed.RegisterOrNumber None

abbrev RMI : Option Slot
RMI = slot Allowed.RegisterMemoryOrNumber None

abbrev C : Option Slot
C = slot Allowed.Count None

abbrev T : Option Slot
T = slot Allowed.Label None

-- a register or memory of a size that isn't the instruction's
abbrev RM_of : Width → Option Slot
RM_of w = slot Allowed.RegisterOrMemory (Some w)

abbrev no_operands : Slots
no_operands = None ∷ None ∷ None ∷ []

abbrev one : Option Slot → Slots
one a = a ∷ None ∷ None ∷ []

abbrev two : Option Slot → Option Slot → Slots
two a b = a ∷ b ∷ None ∷ []

abbrev three : Option Slot → Option Slot → Option Slot → Slots
three a b c = a ∷ b ∷ c ∷ []

-- with a suffix `b`, `w` or `l`, or the size of a register
abbrev sized : List ℕ → Op → Slots → NameRow
sized name op slots = row name (Operation.Of op) Suffixes.Bwl None slots

-- with `w` or `l`
abbrev wide : List ℕ → Op → Slots → NameRow
wide name op slots = row name (Operation.Of op) Suffixes.Wl None slots

-- of 32 bits, with `l` or without
abbrev long : List ℕ → Op → Slots → NameRow
long name op slots = row name (Operation.Of op) Suffixes.L (Some L) slots

-- without a suffix
abbrev exact : List ℕ → Op → Width → Slots → NameRow
exact name op w slots = row name (Operation.Of op) Suffixes.None (Some w) slots

abbrev plain : List ℕ → Op → NameRow
plain name op = exact name op L no_operands

-- moves of data
abbrev pub moves : List NameRow
moves =
    sized (codes "mov") ops.Mov (two RMI RM)
    ∷ exact (codes "movzbw") ops.Movzbw W (two (RM_of B) R)
    ∷ exact (codes "movzbl") ops.Movzbl L (two (RM_of B) R)
    ∷ exact (codes "movzwl") ops.Movzwl L (two (RM_of W) R)
    ∷ exact (codes "movsbw") ops.Movsbw W (two (RM_of B) R)
    ∷ exact (codes "movsbl") ops.Movsbl L (two (RM_of B) R)
    ∷ exact (codes "movswl") ops.Movswl L (two (RM_of W) R)
    ∷ long (codes "lea") ops.Lea (two M R)
    ∷ locked 1 (sized (codes "xchg") ops.Xchg (two R RM))
    ∷ locked 0 (sized (codes "xchg") ops.Xchg (two M R))
    ∷ long (codes "push") ops.Push (one RMI)
    ∷ long (codes "pop") ops.Pop (one RM)
    ∷ long (codes "bswap") ops.Bswap (one R)
    ∷ row (codes "cmov") Operation.Cmov Suffixes.Wl None (two RM R)
    ∷ row (codes "set") Operation.Set Suffixes.B (Some B) (one RM)
    ∷ plain (codes "cltd") ops.Cltd
    ∷ plain (codes "cwtl") ops.Cwtl
    ∷ repeated Repeat.No (plain (codes "nop") ops.Nop)
    ∷ plain (codes "pause") ops.Nop ∷ []

-- jumps
abbrev pub jumps : List NameRow
jumps =
    exact (codes "jmp") ops.Jmp L (one T)
    ∷ row (codes "j") Operation.Jump Suffixes.None (Some L) (one T)
    ∷ exact (codes "jecxz") ops.Jecxz L (one T)
    ∷ exact (codes "loop") ops.Loop L (one T) ∷ []

-- arithmetic and logic
abbrev pub arithmetic : List NameRow
arithmetic =
    locked 1 (sized (codes "add") ops.Add (two RMI RM))
    ∷ locked 1 (sized (codes "sub") ops.Sub (two RMI RM))
    ∷ locked 1 (sized (codes "adc") ops.Adc (two RMI RM))
    ∷ locked 1 (sized (codes "sbb") ops.Sbb (two RMI RM))
    ∷ sized (codes "cmp") ops.Cmp (two RMI RM)
    ∷ locked 1 (sized (codes "and") ops.And (two RMI RM))
    ∷ locked 1 (sized (codes "or") ops.Or (two RMI RM))
    ∷ locked 1 (sized (codes "xor") ops.Xor (two RMI RM))
    ∷ sized (codes "test") ops.Test (two RMI RM)
    ∷ locked 0 (sized (codes "neg") ops.Neg (one RM))
    ∷ locked 0 (sized (codes "not") ops.Not (one RM))
    ∷ locked 0 (sized (codes "inc") ops.Inc (one RM))
    ∷ locked 0 (sized (codes "dec") ops.Dec (one RM))
    ∷ sized (codes "mul") ops.Mul (one RM)
    ∷ sized (codes "imul") ops.Imul (one RM)
    ∷ wide (codes "imul") ops.Imul (two RM R)
    ∷ wide (codes "imul") ops.Imul (three I RM R)
    ∷ sized (codes "div") ops.Div (one RM)
    ∷ sized (codes "idiv") ops.Idiv (one RM)
    ∷ plain (codes "clc") ops.Clc
    ∷ plain (codes "stc") ops.Stc
    ∷ plain (codes "cmc") ops.Cmc ∷ []

-- shifts, rotations and bits; a bit test of memory by a register offset is left out
abbrev pub bits : List NameRow
bits =
    sized (codes "shl") ops.Shl (two C RM)
    ∷ sized (codes "shl") ops.Shl (one RM)
    ∷ sized (codes "sal") ops.Shl (two C RM)
    ∷ sized (codes "sal") ops.Shl (one RM)
    ∷ sized (codes "shr") ops.Shr (two C RM)
    ∷ sized (codes "shr") ops.Shr (one RM)
    ∷ sized (codes "sar") ops.Sar (two C RM)
    ∷ sized (codes "sar") ops.Sar (one RM)
    ∷ sized (codes "rol") ops.Rol (two C RM)
    ∷ sized (codes "rol") ops.Rol (one RM)
    ∷ sized (codes "ror") ops.Ror (two C RM)
    ∷ sized (codes "ror") ops.Ror (one RM)
    ∷ long (codes "shld") ops.Shld (three C R RM)
    ∷ long (codes "shrd") ops.Shrd (three C R RM)
    ∷ wide (codes "bsf") ops.Bsf (two RM R)
    ∷ wide (codes "bsr") ops.Bsr (two RM R)
    ∷ wide (codes "bt") ops.Bt (two RI R)
    ∷ wide (codes "bt") ops.Bt (two I M)
    ∷ left_out (wide (codes "bt") ops.Bt (two R M))
    ∷ wide (codes "bts") ops.Bts (two RI R)
    ∷ locked 1 (wide (codes "bts") ops.Bts (two I M))
    ∷ left_out (locked 1 (wide (codes "bts") ops.Bts (two R M)))
    ∷ wide (codes "btr") ops.Btr (two RI R)
    ∷ locked 1 (wide (codes "btr") ops.Btr (two I M))
    ∷ left_out (locked 1 (wide (codes "btr") ops.Btr (two R M)))
    ∷ wide (codes "btc") ops.Btc (two RI R)
    ∷ locked 1 (wide (codes "btc") ops.Btc (two I M))
    ∷ left_out (locked 1 (wide (codes "btc") ops.Btc (two R M))) ∷ []

-- strings
abbrev pub strings : List NameRow
strings =
    repeated Repeat.Rep (sized (codes "movs") ops.Movs no_operands)
    ∷ repeated Repeat.Rep (sized (codes "stos") ops.Stos no_operands)
    ∷ repeated Repeat.Rep (sized (codes "lods") ops.Lods no_operands)
    ∷ compared (sized (codes "cmps") ops.Cmps no_operands)
    ∷ compared (sized (codes "scas") ops.Scas no_operands)
    ∷ plain (codes "cld") ops.Cld
    ∷ plain (codes "std") ops.Std ∷ []

-- exchanges and others
abbrev pub atomics : List NameRow
atomics =
    locked 1 (sized (codes "xadd") ops.Xadd (two R RM))
    ∷ locked 1 (sized (codes "cmpxchg") ops.Cmpxchg (two R RM))
    ∷ locked 0 (exact (codes "cmpxchg8b") ops.Cmpxchg8b Q (one M))
    ∷ plain (codes "cpuid") ops.Cpuid
    ∷ plain (codes "rdtsc") ops.Rdtsc ∷ []

-- the whole table
abbrev pub names : List NameRow
names = moves ++ jumps ++ arithmetic ++ bits ++ strings ++ atomics
