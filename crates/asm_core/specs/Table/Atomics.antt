-- Exchanges, and what the processor tells (Intel SDM volume 2).
use Rattle.std.specs.Prelude.{ℕ, List, [], ◌∷◌, ◌++◌}
use Rattle.asm_core.specs.RowTerms.{op1, op2, op3, arg, to_arg, reg, to_reg, to_flag, zero_input, accumulator, to_accumulator, sum_flags, difference_flags}
use Rattle.asm_core.specs.declared.reg.Reg.{Reg}
use Rattle.asm_core.specs.declared.flag.Flag.{Flag}
use Rattle.asm_core.specs.declared.micro_op.Bytes.{Bytes}
use Rattle.asm_core.specs.declared.micro_op.Input.{Input}
use Rattle.asm_core.specs.declared.micro_op.Target.{Target}
use Rattle.asm_core.specs.declared.micro_op.Function.{Function}
use Rattle.asm_core.specs.declared.micro_op.MicroOp.{MicroOp}

-- s := d, d := d + s
abbrev pub xadd_row : List MicroOp
xadd_row =
    op1 (to_arg 0) Function.Copy (arg 1) ∷ op2 (to_arg 1) Function.Sum (arg 1) (arg 0)
    ∷ sum_flags (arg 1) (arg 0) zero_input 1

-- Where the accumulator is d (ZF, number 4), d := s, else accumulator := d.
abbrev pub cmpxchg_row : List MicroOp
cmpxchg_row =
    op2 Target.Temporary Function.Difference accumulator (arg 1)
    ∷ difference_flags accumulator (arg 1) zero_input 0
    ++ op3 to_accumulator Function.Pick (Input.Earlier 4) accumulator (arg 1)
    ∷ op3 (to_arg 1) Function.Pick (Input.Earlier 4) (arg 0) (arg 1)
    ∷ []

-- The memory operand against edx:eax, 8 bytes: where they are equal (number 3), it becomes ecx:ebx, else they become it.
abbrev pub cmpxchg8b_row : List MicroOp
cmpxchg8b_row =
    op2 Target.Temporary Function.Join (reg Reg.Eax Bytes.All) (reg Reg.Edx Bytes.All)
    ∷ op2 Target.Temporary Function.Join (reg Reg.Ebx Bytes.All) (reg Reg.Ecx Bytes.All)
    ∷ op2 Target.Temporary Function.Xor (Input.Earlier 0) (arg 0)
    ∷ op1 Target.Temporary Function.IsZero (Input.Earlier 2)
    ∷ op3 (to_arg 0) Function.Pick (Input.Earlier 3) (Input.Earlier 1) (arg 0)
    ∷ op1 Target.Temporary Function.UpperHalf (arg 0)
    ∷ op3 (to_reg Reg.Edx Bytes.All) Function.Pick (Input.Earlier 3) (reg Reg.Edx Bytes.All) (Input.Earlier 5)
    ∷ op3 (to_reg Reg.Eax Bytes.All) Function.Pick (Input.Earlier 3) (reg Reg.Eax Bytes.All) (arg 0)
    ∷ op1 (to_flag Flag.Zf) Function.Value (Input.Earlier 3)
    ∷ []

-- the four words that come from outside, by the leaf in eax and the one below it in ecx
abbrev cpuid_word : Reg → ℕ → MicroOp
cpuid_word r k = op3 (to_reg r Bytes.All) Function.Value (Input.Outside k) (reg Reg.Eax Bytes.All) (reg Reg.Ecx Bytes.All)

abbrev pub cpuid_row : List MicroOp
cpuid_row = cpuid_word Reg.Eax 0 ∷ cpuid_word Reg.Ebx 1 ∷ cpuid_word Reg.Ecx 2 ∷ cpuid_word Reg.Edx 3 ∷ []

-- edx:eax := the count of cycles, two words from outside
abbrev pub rdtsc_row : List MicroOp
rdtsc_row =
    op1 (to_reg Reg.Eax Bytes.All) Function.Value (Input.Outside 0)
    ∷ op1 (to_reg Reg.Edx Bytes.All) Function.Value (Input.Outside 1) ∷ []
