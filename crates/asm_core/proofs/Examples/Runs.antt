-- Runs of `movl $7,%eax; addl $5,%eax; movl %eax,%ebx`.
use Rattle.std.proofs.Common.{◌≡◌, pos, [], ◌∷◌, false, None, Some, refl}
use Rattle.asm_core.specs.Run.{Outcome, run_of}
use Rattle.asm_core.proofs.Examples.Machines.{fresh}
use Rattle.asm_core.specs.declared.reg.Reg.{Reg}
use Rattle.asm_core.specs.declared.reg.Slice.{Slice}
use Rattle.asm_core.specs.declared.inst.Op.{Op}
use Rattle.asm_core.specs.declared.inst.Width.{Width}
use Rattle.asm_core.specs.declared.inst.Repeat.{Repeat}
use Rattle.asm_core.specs.declared.inst.Inst.{Inst}
use Rattle.asm_core.specs.declared.inst.InstArg.{InstArg}
use Rattle.asm_core.specs.declared.inst.Code.{Code}
use Rattle.asm_core.specs.declared.machine.Fault.{Fault}
use Rattle.asm_core.specs.declared.machine.Machine.{Machine}

abbrev inst : Op → InstArg → InstArg → Inst
inst op source dest = record { op = op; width = Width.L; args = Some source ∷ Some dest ∷ None ∷ []; repeat = Repeat.No; lock = false }

abbrev eax : InstArg
eax = InstArg.Register Reg.Eax Slice.All

abbrev ebx : InstArg
ebx = InstArg.Register Reg.Ebx Slice.All

abbrev code : Code
code = record {
  insts = inst Op.Mov (InstArg.Number (pos 7)) eax ∷ inst Op.Add (InstArg.Number (pos 5)) eax ∷ inst Op.Mov eax ebx ∷ [];
  goals = 1 ∷ 2 ∷ 3 ∷ [];
}

-- 12 has two ones, so that the one flag that is set is PF
abbrev ended : Machine
ended = record fresh { regs = 12 ∷ 12 ∷ 3 ∷ 4 ∷ 5 ∷ 6 ∷ 7 ∷ []; flags = record { 0 = 2 }; at = 3 }

to_the_end : run_of code 3 [] [] fresh ≡ Outcome.Ended ended
unfolding lib.Count.ones
to_the_end = refl

more_steps_than_there_are : run_of code 100 [] [] fresh ≡ Outcome.Ended ended
unfolding lib.Count.ones
more_steps_than_there_are = refl

two_steps : run_of code 2 [] [] fresh ≡ Outcome.Going (record fresh { regs = 12 ∷ 2 ∷ 3 ∷ 4 ∷ 5 ∷ 6 ∷ 7 ∷ []; flags = record { 0 = 2 }; at = 2 })
unfolding lib.Count.ones
two_steps = refl

no_step : run_of code 0 [] [] fresh ≡ Outcome.Going fresh
no_step = refl

-- an instruction that writes to a number can't be done: the step counts, and nothing changes
no_destination : run_of (record { insts = inst Op.Mov eax (InstArg.Number (pos 7)) ∷ []; goals = 1 ∷ [] }) 1 [] [] fresh ≡ Outcome.Failed Fault.Access fresh
no_destination = refl

not_yet_failed : run_of (record { insts = inst Op.Mov eax (InstArg.Number (pos 7)) ∷ []; goals = 1 ∷ [] }) 0 [] [] fresh ≡ Outcome.Going fresh
not_yet_failed = refl

-- no instructions are at their end
nothing_to_run : run_of (record { insts = []; goals = [] }) 0 [] [] fresh ≡ Outcome.Ended fresh
nothing_to_run = refl
