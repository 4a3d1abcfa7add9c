-- A written register is read back, and numbers are within the fields' types.
use Rattle.std.proofs.Common.{◌≡◌, ⊎_elim, ℕ, ◌+◌, ◌^◌, ◌<◌, nat_lt, ℤ, pos, negsuc, List, [], ◌∷◌, length, slice_index, Bool, true, false, if◌then◌else◌, arith}
use Rattle.std.specs.List.{All}
use Rattle.std.proofs.lemmas.Bool.{cases_lt}
use Rattle.std.proofs.lemmas.List.{get_or-set_same, get_or_past}
use Rattle.std.proofs.lemmas.List.Elements.{All-set}
use Rattle.asm_core.specs.Reg.{reg_number}
use Rattle.asm_core.specs.Machine.{IsMachine, reg_in, with_reg}
use Rattle.asm_core.specs.Memory.{modulo}
use Rattle.asm_core.specs.MicroOps.{with_part, pushed, put, put_all, destinations_of, values_of, read_in}
use Rattle.asm_core.specs.Rows.{inst_row, row_step}
use Rattle.asm_core.specs.RowLaws.{HoldsAfter}
use Rattle.asm_core.proofs.StepLaws.{ended_holds}
use Rattle.asm_core.specs.declared.reg.Reg.{Reg}
use Rattle.asm_core.specs.declared.reg.Reg.TheVariants.{Eax, Ebx, Ecx, Edx, Esi, Edi, Ebp}
use Rattle.asm_core.specs.declared.inst.Inst.{Inst}
use Rattle.asm_core.specs.declared.micro_op.Bytes.{Bytes}
use Rattle.asm_core.specs.declared.micro_op.Destination.{Destination}
use Rattle.asm_core.specs.declared.machine.Machine.{Machine}

pub reg_number_small : (r : Reg) → reg_number r < 7
reg_number_small Eax = omega arith
reg_number_small Ebx = omega arith
reg_number_small Ecx = omega arith
reg_number_small Edx = omega arith
reg_number_small Esi = omega arith
reg_number_small Edi = omega arith
reg_number_small Ebp = omega arith

-- a written register is read back
pub written_reg : (r : Reg) (v : ℕ) (m : Machine) → length m.regs ≡ 7 → reg_in r (with_reg r v m) ≡ v
written_reg r v m count = let small = reg_number_small r in get_or-set_same m.regs (reg_number r) v 0 (omega arith)

pub reg_in_small : (r : Reg) (m : Machine) → IsMachine m → reg_in r m < 2 ^ 32
reg_in_small r m h = let small = reg_number_small r in let count = h.reg_count in h.regs (reg_number r) 0 (omega arith)

pub modulo_small : (n : ℤ) → modulo n 32 < 2 ^ 32
modulo_small (pos n) = omega arith
modulo_small (negsuc n) = omega arith

-- ---- a step leaves words in the registers

-- each register holds a number of 32 bits
pub record AreWords (m : Machine) : Type 0 where
  pub words : All (λ v. v < 2 ^ 32) m.regs

with_part_small : (bytes : Bytes) (v old : ℕ) → old < 2 ^ 32 → with_part bytes v old < 2 ^ 32
with_part_small Bytes.Whole v old small = omega arith
with_part_small Bytes.Byte0 v old small = omega arith
with_part_small Bytes.Byte1 v old small = omega arith
with_part_small Bytes.Byte2 v old small = omega arith
with_part_small Bytes.Byte3 v old small = omega arith
with_part_small Bytes.Low16 v old small = omega arith
with_part_small Bytes.High16 v old small = omega arith
with_part_small Bytes.Upper24 v old small = omega arith
with_part_small Bytes.All v old small = omega arith

-- a register of words is one, and 0 where the list is too short
pub word_small : (m : Machine) (r : Reg) → AreWords m → reg_in r m < 2 ^ 32
word_small m r h = read_small m.regs (reg_number r) h.words
  where
    read_small : (l : List ℕ) (k : ℕ) → All (λ v. v < 2 ^ 32) l → slice_index l k < 2 ^ 32
    read_small l k all = ⊎_elim (λ within. all k 0 within) (λ past. rw (get_or_past l k 0 past) (omega arith)) (cases_lt k (length l))

pub put_words : (d : Destination) (v : ℕ) (m : Machine) → AreWords m → AreWords (put d v m)
put_words Destination.Nowhere v m h = h
put_words (Destination.Register r bytes) v m h = record { words = All-set (λ x. x < 2 ^ 32) m.regs (reg_number r) (with_part bytes v (reg_in r m)) (with_part_small bytes v (reg_in r m) (word_small m r h)) h.words }
put_words (Destination.Memory a n) v m h = record { words = h.words }
put_words (Destination.Flag f) v m h = record { words = h.words }
put_words (Destination.Push n) v m h = by_test (nat_lt n 16)
  where
    by_test : (t : Bool) → AreWords (if t then pushed n v m else m)
    by_test true = record { words = h.words }
    by_test false = h
put_words (Destination.Pop n) v m h = record { words = h.words }

pub put_all_words : (ds : List Destination) (k : ℕ) (vs : List ℕ) (m : Machine) → AreWords m → AreWords (put_all ds k vs m)
put_all_words [] k vs m h = h
put_all_words (d ∷ ds) k vs m h = put_all_words ds (k + 1) vs (put d (slice_index vs k) m) (put_words d (slice_index vs k) m h)

pub step_words : (i : Inst) (goal choice : ℕ) (words : List ℕ) (m : Machine) → AreWords m → HoldsAfter AreWords (row_step i goal choice words m)
step_words i goal choice words m h =
    ended_holds AreWords (inst_row i) i goal (values_of i.width (read_in i choice words m) (inst_row i)) m
    (λ e. record { words = h.words })
    (λ e. record { words = (put_all_words (destinations_of i m (inst_row i)) 0 (values_of i.width (read_in i choice words m) (inst_row i)) m h).words })
