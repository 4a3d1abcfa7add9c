-- Moves of data and jumps (Intel SDM volume 2).
use Rattle.std.specs.Prelude.{ℕ, List, [], ◌∷◌, ◌++◌}
use Rattle.asm_core.specs.RowTerms.{op1, op2, op3, arg, to_arg, reg, to_reg, flag, zero_input}
use Rattle.asm_core.specs.declared.reg.Reg.{Reg}
use Rattle.asm_core.specs.declared.flag.Flag.{Flag}
use Rattle.asm_core.specs.declared.cond.Cond.{Cond}
use Rattle.asm_core.specs.declared.micro_op.Bytes.{Bytes}
use Rattle.asm_core.specs.declared.micro_op.Site.{Site}
use Rattle.asm_core.specs.declared.micro_op.Input.{Input}
use Rattle.asm_core.specs.declared.micro_op.Target.{Target}
use Rattle.asm_core.specs.declared.micro_op.Function.{Function}
use Rattle.asm_core.specs.declared.micro_op.MicroOp.{MicroOp}

-- d := s
abbrev pub mov_row : List MicroOp
mov_row = op1 (to_arg 1) Function.Copy (arg 0) ∷ []

-- ---- a short source in a longer destination

-- bytes of an operand
abbrev bytes_in : ℕ → Bytes → Input
bytes_in k bytes = Input.Read (Site.Argument k bytes)

abbrev to_bytes : ℕ → Bytes → Target
to_bytes k bytes = Target.Site (Site.Argument k bytes)

-- the low bytes are the source's, the upper ones 0
abbrev zero_extended_row : Bytes → Bytes → List MicroOp
zero_extended_row low upper =
    op1 (to_bytes 1 low) Function.Copy (bytes_in 0 low) ∷ op1 (to_bytes 1 upper) Function.Value zero_input ∷ []

-- the low bytes are the source's, the upper ones its sign
abbrev sign_extended_row : Function → Bytes → Bytes → List MicroOp
sign_extended_row fill low upper =
    op1 (to_bytes 1 low) Function.Copy (bytes_in 0 low) ∷ op1 (to_bytes 1 upper) fill (bytes_in 0 low) ∷ []

abbrev pub movzbw_row : List MicroOp
movzbw_row = zero_extended_row Bytes.Byte0 Bytes.Byte1

abbrev pub movzbl_row : List MicroOp
movzbl_row = zero_extended_row Bytes.Byte0 Bytes.Upper24

abbrev pub movzwl_row : List MicroOp
movzwl_row = zero_extended_row Bytes.Low16 Bytes.High16

abbrev pub movsbw_row : List MicroOp
movsbw_row = sign_extended_row Function.SignFill8 Bytes.Byte0 Bytes.Byte1

abbrev pub movsbl_row : List MicroOp
movsbl_row = sign_extended_row Function.SignFill8 Bytes.Byte0 Bytes.Upper24

abbrev pub movswl_row : List MicroOp
movswl_row = sign_extended_row Function.SignFill16 Bytes.Low16 Bytes.High16

-- edx := the sign of eax
abbrev pub cltd_row : List MicroOp
cltd_row = op1 (to_reg Reg.Edx Bytes.All) Function.SignFill (reg Reg.Eax Bytes.All) ∷ []

-- the upper half of eax := the sign of ax
abbrev pub cwtl_row : List MicroOp
cwtl_row = op1 (to_reg Reg.Eax Bytes.High16) Function.SignFill16 (reg Reg.Eax Bytes.Low16) ∷ []

-- ---- other moves

-- d := the address s
abbrev pub lea_row : List MicroOp
lea_row = op1 (to_arg 1) Function.Value (Input.Address 0) ∷ []

-- s := d, d := s
abbrev pub xchg_row : List MicroOp
xchg_row = op1 (to_arg 0) Function.Copy (arg 1) ∷ op1 (to_arg 1) Function.Copy (arg 0) ∷ []

abbrev pub push_row : List MicroOp
push_row = op1 Target.Push Function.Copy (arg 0) ∷ []

abbrev pub pop_row : List MicroOp
pop_row = op1 (to_arg 0) Function.Copy Input.Top ∷ op1 Target.Pop Function.Value zero_input ∷ []

-- the four bytes in the other order
abbrev pub bswap_row : List MicroOp
bswap_row =
    op1 (to_bytes 0 Bytes.Byte0) Function.Copy (bytes_in 0 Bytes.Byte3)
    ∷ op1 (to_bytes 0 Bytes.Byte1) Function.Copy (bytes_in 0 Bytes.Byte2)
    ∷ op1 (to_bytes 0 Bytes.Byte2) Function.Copy (bytes_in 0 Bytes.Byte1)
    ∷ op1 (to_bytes 0 Bytes.Byte3) Function.Copy (bytes_in 0 Bytes.Byte0)
    ∷ []

-- ---- conditions (Intel SDM volume 1, appendix B)

-- what a condition is of two flags, by one test of the micro-operation before: whether a differs from b, or c is 1
abbrev condition_ops : Input → Input → Input → Function → List MicroOp
condition_ops a b c test =
    op2 Target.Temporary Function.Xor a b ∷ op2 Target.Temporary Function.Or c (Input.Earlier 0)
    ∷ op1 Target.Temporary test (Input.Earlier 1) ∷ []

-- one flag is 1, or is 0
abbrev is_one : Flag → List MicroOp
is_one f = condition_ops zero_input zero_input (flag f) Function.Value

abbrev is_zero : Flag → List MicroOp
is_zero f = condition_ops zero_input zero_input (flag f) Function.IsZero

-- CF or ZF is 1, or neither
abbrev below_or_equal : Function → List MicroOp
below_or_equal test = condition_ops (flag Flag.Cf) zero_input (flag Flag.Zf) test

-- SF differs from OF, or doesn't
abbrev less : Function → List MicroOp
less test = condition_ops (flag Flag.Sf) (flag Flag.Of) zero_input test

-- SF differs from OF or ZF is 1, or neither
abbrev less_or_equal : Function → List MicroOp
less_or_equal test = condition_ops (flag Flag.Sf) (flag Flag.Of) (flag Flag.Zf) test

-- three micro-operations, the last of which (number 2) is 1 where the condition holds
abbrev pub condition : Cond → List MicroOp
condition Cond.O = is_one Flag.Of
condition Cond.No = is_zero Flag.Of
condition Cond.B = is_one Flag.Cf
condition Cond.Ae = is_zero Flag.Cf
condition Cond.E = is_one Flag.Zf
condition Cond.Ne = is_zero Flag.Zf
condition Cond.Be = below_or_equal Function.Value
condition Cond.A = below_or_equal Function.IsZero
condition Cond.S = is_one Flag.Sf
condition Cond.Ns = is_zero Flag.Sf
condition Cond.P = is_one Flag.Pf
condition Cond.Np = is_zero Flag.Pf
condition Cond.L = less Function.Value
condition Cond.Ge = less Function.IsZero
condition Cond.Le = less_or_equal Function.Value
condition Cond.G = less_or_equal Function.IsZero

-- d := s where the condition holds, else d; s is read in any case
abbrev pub cmov_row : Cond → List MicroOp
cmov_row c = condition c ++ op3 (to_arg 1) Function.Pick (Input.Earlier 2) (arg 0) (arg 1) ∷ []

abbrev pub set_row : Cond → List MicroOp
set_row c = condition c ++ op1 (to_arg 0) Function.Value (Input.Earlier 2) ∷ []

-- ---- jumps

abbrev pub jmp_row : List MicroOp
jmp_row = op1 Target.Jump Function.Value (Input.Number 1) ∷ []

abbrev pub jump_row : Cond → List MicroOp
jump_row c = condition c ++ op1 Target.Jump Function.Value (Input.Earlier 2) ∷ []

abbrev pub jecxz_row : List MicroOp
jecxz_row = op1 Target.Jump Function.IsZero (reg Reg.Ecx Bytes.All) ∷ []

-- ecx := ecx - 1; jumps where it isn't 0 then
abbrev pub loop_row : List MicroOp
loop_row =
    op1 (to_reg Reg.Ecx Bytes.All) Function.CountDown (reg Reg.Ecx Bytes.All)
    ∷ op1 Target.Jump Function.IsNonZero (Input.Earlier 0) ∷ []
