-- Shifts, rotations and bits (Intel SDM volume 2). Where the count of a shift is 0, nothing changes.
use Rattle.std.specs.Prelude.{ℕ, zero, suc, List, [], ◌∷◌}
use Rattle.asm_core.specs.RowTerms.{op1, op2, op3, arg, to_arg, flag, to_flag, zero_input, undefined_flag, undefined_middle_flags}
use Rattle.asm_core.specs.declared.flag.Flag.{Flag}
use Rattle.asm_core.specs.declared.micro_op.Input.{Input}
use Rattle.asm_core.specs.declared.micro_op.Target.{Target}
use Rattle.asm_core.specs.declared.micro_op.Function.{Function}
use Rattle.asm_core.specs.declared.micro_op.MicroOp.{MicroOp}

-- ---- shifts

-- micro-operations 0 to 5 of a shift: its count, its result, what PF, ZF and SF are of that, and whether the count is 1
abbrev shift_ops : Input → MicroOp → List MicroOp → List MicroOp
shift_ops count result rest =
    op1 Target.Temporary Function.Count count
    ∷ result
    ∷ op1 Target.Temporary Function.Parity (Input.Earlier 1)
    ∷ op1 Target.Temporary Function.IsZero (Input.Earlier 1)
    ∷ op1 Target.Temporary Function.Sign (Input.Earlier 1)
    ∷ op1 Target.Temporary Function.CountIsOne count
    ∷ rest

-- a flag that a shift sets to that, and leaves where the count is 0
abbrev shift_flag : Flag → Input → MicroOp
shift_flag f value = op3 (to_flag f) Function.Pick (Input.Earlier 0) value (flag f)

-- the flags of a shift, given the values of CF and OF
abbrev shift_flags : Input → Input → List MicroOp
shift_flags cf of =
    shift_flag Flag.Cf cf
    ∷ shift_flag Flag.Pf (Input.Earlier 2)
    ∷ shift_flag Flag.Af (Input.Undefined 2)
    ∷ shift_flag Flag.Zf (Input.Earlier 3)
    ∷ shift_flag Flag.Sf (Input.Earlier 4)
    ∷ shift_flag Flag.Of of
    ∷ []

-- micro-operations 6 to 8 of a shift: CF is the last bit out, undefined where the count isn't below the width
abbrev last_out : Function → Input → ℕ → List MicroOp → List MicroOp
last_out out count d rest =
    op2 Target.Temporary out (arg d) count
    ∷ op1 Target.Temporary Function.CountBelowWidth count
    ∷ op3 Target.Temporary Function.Pick (Input.Earlier 7) (Input.Earlier 6) (Input.Undefined 0)
    ∷ rest

-- the value, where micro-operation k says that the count is 1; else OF is undefined
abbrev for_count_one : ℕ → Input → MicroOp
for_count_one k value = op3 Target.Temporary Function.Pick (Input.Earlier k) value (Input.Undefined 5)

-- d := d shifted left. OF is whether the top bit of the result differs from CF where the count is 1.
abbrev pub shl_row : Input → ℕ → List MicroOp
shl_row count d =
    shift_ops count (op2 (to_arg d) Function.ShiftLeft (arg d) count)
    (last_out Function.OutLeft count d
    (op2 Target.Temporary Function.Xor (Input.Earlier 4) (Input.Earlier 8)
    ∷ for_count_one 5 (Input.Earlier 9)
    ∷ shift_flags (Input.Earlier 8) (Input.Earlier 10)))

-- d := d shifted right. OF is the old top bit where the count is 1.
abbrev pub shr_row : Input → ℕ → List MicroOp
shr_row count d =
    shift_ops count (op2 (to_arg d) Function.ShiftRight (arg d) count)
    (last_out Function.OutRight count d
    (op1 Target.Temporary Function.Sign (arg d)
    ∷ for_count_one 5 (Input.Earlier 9)
    ∷ shift_flags (Input.Earlier 8) (Input.Earlier 10)))

-- d := d shifted right with its sign. CF is the last bit out at any count; OF is 0 where the count is 1.
abbrev pub sar_row : Input → ℕ → List MicroOp
sar_row count d =
    shift_ops count (op2 (to_arg d) Function.ShiftArithmeticRight (arg d) count)
    (op2 Target.Temporary Function.OutArithmeticRight (arg d) count
    ∷ for_count_one 5 zero_input
    ∷ shift_flags (Input.Earlier 6) (Input.Earlier 7))

-- d := d shifted, with bits of the middle operand coming in. OF is whether the sign changed where the count is 1.
abbrev double_row : Function → Function → List MicroOp
double_row shift out =
    shift_ops (arg 0) (op3 (to_arg 2) shift (arg 2) (arg 1) (arg 0))
    (last_out out (arg 0) 2
    (op1 Target.Temporary Function.Sign (arg 2)
    ∷ op2 Target.Temporary Function.Xor (Input.Earlier 4) (Input.Earlier 9)
    ∷ for_count_one 5 (Input.Earlier 10)
    ∷ shift_flags (Input.Earlier 8) (Input.Earlier 11)))

abbrev pub shld_row : List MicroOp
shld_row = double_row Function.ShiftDoubleLeft Function.OutLeft

abbrev pub shrd_row : List MicroOp
shrd_row = double_row Function.ShiftDoubleRight Function.OutRight

-- ---- rotations

-- Micro-operations 0 to 4 of a rotation: CF is a bit of the result, undefined where the count is a multiple of the width.
abbrev rotate_ops : Function → MicroOp → Input → ℕ → List MicroOp → List MicroOp
rotate_ops rotate bit count d rest =
    op1 Target.Temporary Function.Count count
    ∷ op2 (to_arg d) rotate (arg d) count
    ∷ bit
    ∷ op1 Target.Temporary Function.CountTurns count
    ∷ op3 Target.Temporary Function.Pick (Input.Earlier 3) (Input.Earlier 2) (Input.Undefined 0)
    ∷ op1 Target.Temporary Function.CountIsOne count
    ∷ rest

-- d := d rotated left. CF is the result's lowest bit; OF is whether its top bit differs from CF where the count is 1.
abbrev pub rol_row : Input → ℕ → List MicroOp
rol_row count d =
    rotate_ops Function.RotateLeft (op2 Target.Temporary Function.Bit (Input.Earlier 1) zero_input) count d
    (op1 Target.Temporary Function.Sign (Input.Earlier 1)
    ∷ op2 Target.Temporary Function.Xor (Input.Earlier 6) (Input.Earlier 4)
    ∷ for_count_one 5 (Input.Earlier 7)
    ∷ shift_flag Flag.Cf (Input.Earlier 4)
    ∷ shift_flag Flag.Of (Input.Earlier 8)
    ∷ [])

-- d := d rotated right. CF is the result's top bit; OF is whether its two top bits differ where the count is 1.
abbrev pub ror_row : Input → ℕ → List MicroOp
ror_row count d =
    rotate_ops Function.RotateRight (op1 Target.Temporary Function.Sign (Input.Earlier 1)) count d
    (op1 Target.Temporary Function.TopBitsDiffer (Input.Earlier 1)
    ∷ for_count_one 5 (Input.Earlier 6)
    ∷ shift_flag Flag.Cf (Input.Earlier 4)
    ∷ shift_flag Flag.Of (Input.Earlier 7)
    ∷ [])

-- ---- counts

-- with one operand the count is 1
abbrev pub by_count : (Input → ℕ → List MicroOp) → ℕ → List MicroOp
by_count row (suc zero) = row (Input.Number 1) 0
by_count row n = row (arg 0) 1

abbrev touch : ℕ → List MicroOp
touch d = op1 (Target.Touch d) Function.Value zero_input ∷ []

-- a shift with that many operands whose count is known to be 0 loads and stores the last, and leaves it and the flags
abbrev pub no_shift_row : ℕ → List MicroOp
no_shift_row (suc zero) = touch 0
no_shift_row (suc (suc zero)) = touch 1
no_shift_row n = touch 2

-- ---- bits

-- d := the index of a bit of s that is 1, undefined where there is none, as ZF then says
abbrev scan_row : Function → List MicroOp
scan_row scan =
    op1 Target.Temporary Function.IsZero (arg 0)
    ∷ op1 Target.Temporary scan (arg 0)
    ∷ op3 (to_arg 1) Function.Pick (Input.Earlier 0) (Input.Undefined 32) (Input.Earlier 1)
    ∷ undefined_flag Flag.Cf
    ∷ undefined_flag Flag.Pf
    ∷ undefined_flag Flag.Af
    ∷ op1 (to_flag Flag.Zf) Function.Value (Input.Earlier 0)
    ∷ undefined_flag Flag.Sf
    ∷ undefined_flag Flag.Of
    ∷ []

abbrev pub bsf_row : List MicroOp
bsf_row = scan_row Function.ScanForward

abbrev pub bsr_row : List MicroOp
bsr_row = scan_row Function.ScanReverse

-- CF := the bit of d at s modulo the width
abbrev pub bt_row : List MicroOp
bt_row = op2 (to_flag Flag.Cf) Function.Bit (arg 1) (arg 0) ∷ undefined_middle_flags (undefined_flag Flag.Of ∷ [])

-- d := d with that bit changed, and CF its old value
abbrev changed_bit_row : Function → List MicroOp
changed_bit_row f = op2 (to_arg 1) f (arg 1) (arg 0) ∷ bt_row

abbrev pub bts_row : List MicroOp
bts_row = changed_bit_row Function.BitSet

abbrev pub btr_row : List MicroOp
btr_row = changed_bit_row Function.BitReset

abbrev pub btc_row : List MicroOp
btc_row = changed_bit_row Function.BitComplement
