-- Arithmetic and logic (Intel SDM volume 2). Flags come after the destination.
use Rattle.std.specs.Prelude.{ℕ, zero, suc, List, [], ◌∷◌}
use Rattle.asm_core.specs.RowTerms.{op1, op2, op3, arg, to_arg, flag, to_flag, zero_input, accumulator, to_accumulator, undefined_flag, fixed_flag, increment_flags, sum_flags, decrement_flags, difference_flags, logic_flags, undefined_middle_flags}
use Rattle.asm_core.specs.declared.reg.Reg.{Reg}
use Rattle.asm_core.specs.declared.flag.Flag.{Flag}
use Rattle.asm_core.specs.declared.inst.Width.{Width}
use Rattle.asm_core.specs.declared.micro_op.Bytes.{Bytes}
use Rattle.asm_core.specs.declared.micro_op.Site.{Site}
use Rattle.asm_core.specs.declared.micro_op.Input.{Input}
use Rattle.asm_core.specs.declared.micro_op.Target.{Target}
use Rattle.asm_core.specs.declared.micro_op.Function.{Function}
use Rattle.asm_core.specs.declared.micro_op.MicroOp.{MicroOp}

-- ---- sums and differences

-- d := d + s
abbrev pub add_row : List MicroOp
add_row = op2 (to_arg 1) Function.Sum (arg 1) (arg 0) ∷ sum_flags (arg 1) (arg 0) zero_input 0

-- d := d + s + CF
abbrev pub adc_row : List MicroOp
adc_row = op3 (to_arg 1) Function.Sum (arg 1) (arg 0) (flag Flag.Cf) ∷ sum_flags (arg 1) (arg 0) (flag Flag.Cf) 0

-- d := d - s
abbrev pub sub_row : List MicroOp
sub_row = op2 (to_arg 1) Function.Difference (arg 1) (arg 0) ∷ difference_flags (arg 1) (arg 0) zero_input 0

-- d := d - s - CF
abbrev pub sbb_row : List MicroOp
sbb_row =
    op3 (to_arg 1) Function.Difference (arg 1) (arg 0) (flag Flag.Cf)
    ∷ difference_flags (arg 1) (arg 0) (flag Flag.Cf) 0

abbrev pub cmp_row : List MicroOp
cmp_row = op2 Target.Temporary Function.Difference (arg 1) (arg 0) ∷ difference_flags (arg 1) (arg 0) zero_input 0

-- d := 0 - d
abbrev pub neg_row : List MicroOp
neg_row = op2 (to_arg 0) Function.Difference zero_input (arg 0) ∷ difference_flags zero_input (arg 0) zero_input 0

-- d := d + 1, d := d - 1; CF stays
abbrev pub inc_row : List MicroOp
inc_row = op2 (to_arg 0) Function.Sum (arg 0) (Input.Number 1) ∷ increment_flags (arg 0) (Input.Number 1) zero_input 0

abbrev pub dec_row : List MicroOp
dec_row =
    op2 (to_arg 0) Function.Difference (arg 0) (Input.Number 1)
    ∷ decrement_flags (arg 0) (Input.Number 1) zero_input 0

-- ---- bitwise

-- d := d and s, and likewise
abbrev bitwise_row : Target → Function → List MicroOp
bitwise_row target f = op2 target f (arg 1) (arg 0) ∷ logic_flags 0

abbrev pub and_row : List MicroOp
and_row = bitwise_row (to_arg 1) Function.And

abbrev pub or_row : List MicroOp
or_row = bitwise_row (to_arg 1) Function.Or

abbrev pub xor_row : List MicroOp
xor_row = bitwise_row (to_arg 1) Function.Xor

abbrev pub test_row : List MicroOp
test_row = bitwise_row Target.Temporary Function.And

abbrev pub not_row : List MicroOp
not_row = op1 (to_arg 0) Function.Not (arg 0) ∷ []

-- ---- products

-- what stands above the accumulator: ah, dx or edx
abbrev pub upper_site : Width → Site
upper_site Width.B = Site.Register Reg.Eax Bytes.Byte1
upper_site w = Site.Register Reg.Edx Bytes.Whole

-- CF and OF say whether the value k isn't 0, the others are undefined
abbrev product_flags : ℕ → List MicroOp
product_flags k =
    op1 (to_flag Flag.Cf) Function.IsNonZero (Input.Earlier k)
    ∷ undefined_middle_flags (op1 (to_flag Flag.Of) Function.IsNonZero (Input.Earlier k) ∷ [])

-- of a signed product whose halves are the first two values: whether the high half isn't the low one's sign
abbrev signed_product_flags : List MicroOp
signed_product_flags =
    op1 Target.Temporary Function.SignFill (Input.Earlier 0)
    ∷ op2 Target.Temporary Function.Xor (Input.Earlier 1) (Input.Earlier 2)
    ∷ product_flags 3

-- the accumulator and what stands above it := accumulator times d
abbrev pub mul_row : Width → List MicroOp
mul_row w =
    op2 to_accumulator Function.ProductLow accumulator (arg 0)
    ∷ op2 (Target.Site (upper_site w)) Function.ProductHigh accumulator (arg 0)
    ∷ product_flags 1

abbrev signed_product_row : Target → Target → Input → Input → List MicroOp
signed_product_row low high x y =
    op2 low Function.ProductLow x y ∷ op2 high Function.SignedProductHigh x y ∷ signed_product_flags

-- The same with signed numbers. With two operands d := d times s, with three d := the first times the second, cut to
-- the width.
abbrev pub imul_row : Width → ℕ → List MicroOp
imul_row w (suc zero) = signed_product_row to_accumulator (Target.Site (upper_site w)) accumulator (arg 0)
imul_row w (suc (suc zero)) = signed_product_row (to_arg 1) Target.Temporary (arg 1) (arg 0)
imul_row w n = signed_product_row (to_arg 2) Target.Temporary (arg 1) (arg 0)

-- ---- quotients

-- what stands above the accumulator and the accumulator, by d: the quotient to the accumulator, the remainder above it
abbrev quotient_row : Function → Function → Function → Width → List MicroOp
quotient_row overflow quotient remainder w =
    op3 Target.Divide overflow (Input.Read (upper_site w)) accumulator (arg 0)
    ∷ op3 to_accumulator quotient (Input.Read (upper_site w)) accumulator (arg 0)
    ∷ op3 (Target.Site (upper_site w)) remainder (Input.Read (upper_site w)) accumulator (arg 0)
    ∷ undefined_flag Flag.Cf ∷ undefined_middle_flags (undefined_flag Flag.Of ∷ [])

abbrev pub div_row : Width → List MicroOp
div_row w = quotient_row Function.QuotientOverflow Function.Quotient Function.Remainder w

abbrev pub idiv_row : Width → List MicroOp
idiv_row w = quotient_row Function.SignedQuotientOverflow Function.SignedQuotient Function.SignedRemainder w

-- ---- CF alone

abbrev pub clc_row : List MicroOp
clc_row = fixed_flag Flag.Cf 0 ∷ []

abbrev pub stc_row : List MicroOp
stc_row = fixed_flag Flag.Cf 1 ∷ []

abbrev pub cmc_row : List MicroOp
cmc_row = op1 (to_flag Flag.Cf) Function.IsZero (flag Flag.Cf) ∷ []

-- ---- one register as both operands

-- a register exclusive-or itself is 0, whatever it holds
abbrev pub xor_self_row : List MicroOp
xor_self_row = op1 (to_arg 1) Function.Value zero_input ∷ logic_flags 0

-- a register less itself is 0, less the borrow
abbrev less_self_row : Input → List MicroOp
less_self_row borrow =
    op3 (to_arg 1) Function.Difference zero_input zero_input borrow ∷ difference_flags zero_input zero_input borrow 0

abbrev pub sub_self_row : List MicroOp
sub_self_row = less_self_row zero_input

abbrev pub sbb_self_row : List MicroOp
sbb_self_row = less_self_row (flag Flag.Cf)
