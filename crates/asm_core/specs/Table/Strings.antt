-- String instructions (Intel SDM volume 2): elements at the addresses in esi and edi, which then step to the next one.
-- What is moved is named and not a copy, by this project's own rule.
use Rattle.std.specs.Prelude.{ℕ, List, [], ◌∷◌, ◌++◌}
use Rattle.asm_core.specs.RowTerms.{op1, op2, reg, to_reg, flag, to_flag, zero_input, accumulator, to_accumulator, difference_flags}
use Rattle.asm_core.specs.declared.reg.Reg.{Reg}
use Rattle.asm_core.specs.declared.flag.Flag.{Flag}
use Rattle.asm_core.specs.declared.micro_op.Bytes.{Bytes}
use Rattle.asm_core.specs.declared.micro_op.Site.{Site}
use Rattle.asm_core.specs.declared.micro_op.Input.{Input}
use Rattle.asm_core.specs.declared.micro_op.Target.{Target}
use Rattle.asm_core.specs.declared.micro_op.Function.{Function}
use Rattle.asm_core.specs.declared.micro_op.MicroOp.{MicroOp}

-- the element at the address in a register
abbrev at_address : Reg → Input
at_address r = Input.Read (Site.Pointed r)

abbrev to_address : Reg → Target
to_address r = Target.Site (Site.Pointed r)

-- the register goes on by an element, downwards where DF is set
abbrev stepped : Reg → MicroOp
stepped r = op2 (to_reg r Bytes.All) Function.IndexStep (reg r Bytes.All) (flag Flag.Df)

abbrev pub movs_row : List MicroOp
movs_row = op1 (to_address Reg.Edi) Function.Value (at_address Reg.Esi) ∷ stepped Reg.Esi ∷ stepped Reg.Edi ∷ []

abbrev pub stos_row : List MicroOp
stos_row = op1 (to_address Reg.Edi) Function.Value accumulator ∷ stepped Reg.Edi ∷ []

abbrev pub lods_row : List MicroOp
lods_row = op1 to_accumulator Function.Value (at_address Reg.Esi) ∷ stepped Reg.Esi ∷ []

-- the flags of x less the element at edi
abbrev compared_row : Input → List MicroOp → List MicroOp
compared_row x rest =
    op2 Target.Temporary Function.Difference x (at_address Reg.Edi)
    ∷ difference_flags x (at_address Reg.Edi) zero_input 0 ++ rest

abbrev pub cmps_row : List MicroOp
cmps_row = compared_row (at_address Reg.Esi) (stepped Reg.Esi ∷ stepped Reg.Edi ∷ [])

abbrev pub scas_row : List MicroOp
scas_row = compared_row accumulator (stepped Reg.Edi ∷ [])

-- DF := 0, DF := 1
abbrev set_direction : ℕ → List MicroOp
set_direction bit = op1 (to_flag Flag.Df) Function.Set (Input.Number bit) ∷ []

abbrev pub cld_row : List MicroOp
cld_row = set_direction 0

abbrev pub std_row : List MicroOp
std_row = set_direction 1
