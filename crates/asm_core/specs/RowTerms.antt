-- Words in which rows are written.
use Rattle.std.specs.Prelude.{ℕ, ◌+◌, List, [], ◌∷◌, ◌++◌, map, length}
use Rattle.asm_core.specs.Flag.{flag_number}
use Rattle.asm_core.specs.declared.reg.Reg.{Reg}
use Rattle.asm_core.specs.declared.flag.Flag.{Flag}
use Rattle.asm_core.specs.declared.inst.Repeat.{Repeat}
use Rattle.asm_core.specs.declared.micro_op.Bytes.{Bytes}
use Rattle.asm_core.specs.declared.micro_op.Site.{Site}
use Rattle.asm_core.specs.declared.micro_op.Input.{Input}
use Rattle.asm_core.specs.declared.micro_op.Target.{Target}
use Rattle.asm_core.specs.declared.micro_op.Function.{Function}
use Rattle.asm_core.specs.declared.micro_op.MicroOp.{MicroOp}

-- the target takes what the function gives of three, two or one inputs
abbrev pub op3 : Target → Function → Input → Input → Input → MicroOp
op3 t f a b c = record { target = t; function = f; x = a; y = b; z = c }

abbrev pub op2 : Target → Function → Input → Input → MicroOp
op2 t f a b = op3 t f a b (Input.Number 0)

abbrev pub op1 : Target → Function → Input → MicroOp
op1 t f a = op2 t f a (Input.Number 0)

-- inputs and targets: an operand, a register used unasked, a flag
abbrev pub arg : ℕ → Input
arg k = Input.Read (Site.Argument k Bytes.Whole)

abbrev pub to_arg : ℕ → Target
to_arg k = Target.Site (Site.Argument k Bytes.Whole)

abbrev pub reg : Reg → Bytes → Input
reg r bytes = Input.Read (Site.Register r bytes)

abbrev pub to_reg : Reg → Bytes → Target
to_reg r bytes = Target.Site (Site.Register r bytes)

abbrev pub flag : Flag → Input
flag f = Input.Read (Site.Flag f)

abbrev pub to_flag : Flag → Target
to_flag f = Target.Site (Site.Flag f)

abbrev pub zero_input : Input
zero_input = Input.Number 0

-- the accumulator, al, ax or eax as the width says
abbrev pub accumulator : Input
accumulator = reg Reg.Eax Bytes.Whole

abbrev pub to_accumulator : Target
to_accumulator = to_reg Reg.Eax Bytes.Whole

-- ---- flags

-- the flag gets an undefined bit of its own
abbrev pub undefined_flag : Flag → MicroOp
undefined_flag f = op1 (to_flag f) Function.Value (Input.Undefined (flag_number f))

-- the flag gets that bit, whatever the state is
abbrev pub fixed_flag : Flag → ℕ → MicroOp
fixed_flag f bit = op1 (to_flag f) Function.Value (Input.Number bit)

-- PF, ZF and SF of the result, which is the row's micro-operation number r
abbrev pub parity_flag : ℕ → MicroOp
parity_flag r = op1 (to_flag Flag.Pf) Function.Parity (Input.Earlier r)

abbrev pub zero_flag : ℕ → MicroOp
zero_flag r = op1 (to_flag Flag.Zf) Function.IsZero (Input.Earlier r)

abbrev pub sign_flag : ℕ → MicroOp
sign_flag r = op1 (to_flag Flag.Sf) Function.Sign (Input.Earlier r)

-- the flags but CF of the sum x + y + z, whose value is that of the row's micro-operation number r
abbrev pub increment_flags : Input → Input → Input → ℕ → List MicroOp
increment_flags x y z r =
    parity_flag r
    ∷ op3 (to_flag Flag.Af) Function.AuxiliaryCarry x y z
    ∷ zero_flag r
    ∷ sign_flag r
    ∷ op3 (to_flag Flag.Of) Function.SumOverflow x y z
    ∷ []

-- all flags of that sum
abbrev pub sum_flags : Input → Input → Input → ℕ → List MicroOp
sum_flags x y z r = op3 (to_flag Flag.Cf) Function.Carry x y z ∷ increment_flags x y z r

-- the flags but CF of the difference x - y - z, whose value is that of the row's micro-operation number r
abbrev pub decrement_flags : Input → Input → Input → ℕ → List MicroOp
decrement_flags x y z r =
    parity_flag r
    ∷ op3 (to_flag Flag.Af) Function.AuxiliaryBorrow x y z
    ∷ zero_flag r
    ∷ sign_flag r
    ∷ op3 (to_flag Flag.Of) Function.DifferenceOverflow x y z
    ∷ []

-- all flags of that difference
abbrev pub difference_flags : Input → Input → Input → ℕ → List MicroOp
difference_flags x y z r = op3 (to_flag Flag.Cf) Function.Borrow x y z ∷ decrement_flags x y z r

-- the flags of a bitwise operation, whose result is the row's micro-operation number r
abbrev pub logic_flags : ℕ → List MicroOp
logic_flags r =
    fixed_flag Flag.Cf 0 ∷ parity_flag r ∷ undefined_flag Flag.Af ∷ zero_flag r ∷ sign_flag r
    ∷ fixed_flag Flag.Of 0 ∷ []

-- PF, AF, ZF and SF undefined
abbrev pub undefined_middle_flags : List MicroOp → List MicroOp
undefined_middle_flags rest =
    undefined_flag Flag.Pf ∷ undefined_flag Flag.Af ∷ undefined_flag Flag.Zf ∷ undefined_flag Flag.Sf ∷ rest

-- ---- repeated string instructions

abbrev pub as_temporary : MicroOp → MicroOp
as_temporary op = record op { target = Target.Temporary }

abbrev pub guarded_op : ℕ → ℕ → Target → List MicroOp → List MicroOp
guarded_op n k (Target.Site site) rest =
    op3 (Target.Site site) Function.Pick (Input.Earlier n) (Input.Earlier k) (Input.Kept site) ∷ rest
guarded_op n k target rest = rest

-- each write of a row from its k-th micro-operation on, made where the instruction has a turn to do (n), else left
abbrev pub guarded : ℕ → ℕ → List MicroOp → List MicroOp
guarded n k [] = []
guarded n k (op ∷ ops) = guarded_op n k op.target (guarded n (k + 1) ops)

abbrev pub zf_or : ℕ → Target → ℕ → ℕ
zf_or k (Target.Site (Site.Flag Flag.Zf)) rest = k
zf_or k target rest = rest

-- the number, from k on, of the micro-operation that gives ZF
abbrev pub zf_from : ℕ → List MicroOp → ℕ
zf_from k [] = k
zf_from k (op ∷ ops) = zf_or k op.target (zf_from (k + 1) ops)

-- One turn of a repeated string instruction whose row is of n micro-operations. It is over where ecx is 0. Else the row's
-- writes are made, ecx falls by 1, and the instruction is done once more where `stay` says so. Where it stays by the
-- compared values, each thing written depends on them too, as they tell how many turns there are.
abbrev pub turn_of : Input → MicroOp → List MicroOp → List MicroOp
turn_of compared stay row =
    map as_temporary row
    ++ op2 Target.Turn Function.Value (reg Reg.Ecx Bytes.All) compared ∷ []
    ++ op1 Target.Temporary Function.CountDown (reg Reg.Ecx Bytes.All) ∷ []
    ++ guarded (length row) 0 row
    ++ op3 (to_reg Reg.Ecx Bytes.All) Function.Pick (Input.Earlier (length row)) (Input.Earlier (length row + 1)) (Input.Kept (Site.Register Reg.Ecx Bytes.All)) ∷ []
    ++ stay ∷ []

abbrev pub repeated : Repeat → List MicroOp → List MicroOp
repeated Repeat.No row = row
repeated Repeat.Rep row = turn_of zero_input (op1 Target.Stay Function.Value (Input.Number 1)) row
repeated Repeat.Repe row = turn_of (Input.Earlier (zf_from 0 row)) (op1 Target.Stay Function.Value (Input.Earlier (zf_from 0 row))) row
repeated Repeat.Repne row = turn_of (Input.Earlier (zf_from 0 row)) (op1 Target.Stay Function.IsZero (Input.Earlier (zf_from 0 row))) row
