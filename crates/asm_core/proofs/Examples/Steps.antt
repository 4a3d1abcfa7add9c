-- The laws of steps at `movl %1,%0`, with operand 1 in ecx and operand 0 in edx: what they ask for is there.
use Rattle.std.proofs.Common.{◌≡◌, ℕ, [], ◌∷◌, false, arith, refl}
use Rattle.asm_core.specs.MicroOps.{row_ended}
use Rattle.asm_core.specs.Reading.Placed.{inst_under}
use Rattle.asm_core.specs.RowLaws.{Component, component_in, FitsCopies, IsLast, LeavesCopies}
use Rattle.asm_core.specs.RowTerms.{op1, arg, to_arg}
use Rattle.asm_core.specs.Steps.{Stand, IsDone}
use Rattle.asm_core.specs.Table.Moves.{mov_row}
use Rattle.asm_core.proofs.CopyLaws.{leaves_copies}
use Rattle.asm_core.proofs.DecideLaws.{holds_of}
use Rattle.asm_core.proofs.Examples.Machines.{fresh}
use Rattle.asm_core.proofs.Examples.Placements.{placement}
use Rattle.asm_core.proofs.Examples.Entries.{fresh_is_machine}
use Rattle.asm_core.specs.declared.reg.Reg.{Reg}
use Rattle.asm_core.specs.declared.reg.Slice.{Slice}
use Rattle.asm_core.specs.declared.inst.Op.{Op}
use Rattle.asm_core.specs.declared.inst.Width.{Width}
use Rattle.asm_core.specs.declared.inst.Repeat.{Repeat}
use Rattle.asm_core.specs.declared.sym.Place.{Place}
use Rattle.asm_core.specs.declared.sym.Arg.{Arg}
use Rattle.asm_core.specs.declared.sym.Sym.{Sym}
use Rattle.asm_core.specs.declared.placement.Spot.{Spot}
use Rattle.asm_core.specs.declared.placement.Placement.{Placement}
use Rattle.asm_core.specs.declared.micro_op.Function.{Function}
use Rattle.asm_core.specs.declared.row.By.{By}
use Rattle.asm_core.specs.declared.row.Source.{Source}
use Rattle.asm_core.specs.declared.row.Written.{Written}
use Rattle.asm_core.specs.declared.row.Write.{Write}
use Rattle.asm_core.specs.declared.machine.Machine.{Machine}

abbrev operand : ℕ → Arg
operand k = Arg.Register (Place.Operand k) Slice.All

abbrev line : Sym
line = record { op = Op.Mov; width = Width.L; args = operand 1 ∷ operand 0 ∷ []; repeat = Repeat.No; lock = false; place = 0 }

abbrev apart : Placement
apart = placement (Spot.Register Reg.Edx) (Spot.Register Reg.Ecx)

-- ecx is 3, and edx was 4
abbrev after : Machine
after = record fresh { regs = 1 ∷ 2 ∷ 3 ∷ 3 ∷ 5 ∷ 6 ∷ 7 ∷ []; at = 1 }

abbrev stand : Stand
stand = record { at = apart; before = fresh; choice = 0; words = []; goal = 0; after = after }

its_step : IsDone mov_row line stand
its_step = record { is_machine = fresh_is_machine; fits = (refl, tt); goes_on = refl; step = refl }

it_copies_enough : FitsCopies apart line mov_row
it_copies_enough = ((refl, omega arith), tt)

abbrev told : Write
told = record { to = Written.Arg (operand 0); first = 0; count = 4; by = By.Copy (Source.Arg (operand 1)) 0 }

its_last_write : IsLast apart line mov_row fresh 0 0 told (Component.RegisterByte Reg.Edx 0)
its_last_write = record { op = op1 (to_arg 1) Function.Copy (arg 0); is_op = refl; is_write = refl; within = omega arith; here = refl; last = λ h. h }

-- the third law gives the low byte of edx
low_byte : component_in (Component.RegisterByte Reg.Edx 0) after ≡ 3
low_byte =
    holds_of (LeavesCopies apart line mov_row fresh) (row_ended mov_row (inst_under apart line) 0 0 [] fresh) after (leaves_copies apart line fresh mov_row 0 0 [] fresh_is_machine (refl, tt) it_copies_enough refl) refl
    0 0 told (Component.RegisterByte Reg.Edx 0) 3 its_last_write refl
