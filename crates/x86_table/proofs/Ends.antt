-- No instruction ends a run by itself.
use Rattle.std.proofs.Common.{◌≡◌, ℕ, List}
use Rattle.asm_core.specs.MicroOps.{Stepped, destinations_of}
use Rattle.asm_core.specs.RowLaws.{HoldsAfter, ChangesOnly, IsHitByOne}
use Rattle.asm_core.specs.Rows.{IsStepOf, inst_row, row_step}
use Rattle.asm_core.proofs.StepLaws.{step_changes}
use Rattle.asm_core.specs.declared.inst.Inst.{Inst}
use Rattle.asm_core.specs.declared.row.StepEnd.{StepEnd}
use Rattle.asm_core.specs.declared.machine.Machine.{Machine}

goes_on : (P : Machine → Type 0) (end : StepEnd) (s : Stepped) (before after : Machine)
    → HoldsAfter P s → IsStepOf end s before after → end ≡ StepEnd.Ended → ⊥
goes_on P end (Stepped.Moved next) before after h is e = cc (is.0, e)
goes_on P end (Stepped.MovedOutside next) before after h is e = cc (is.0, e)
goes_on P end Stepped.Ended before after h is e = absurd h
goes_on P end (Stepped.Faulted fault) before after h is e = cc (is.0, e)

pub step_goes_on : (end : StepEnd) (i : Inst) (goal choice : ℕ) (words : List ℕ) (before after : Machine)
    → IsStepOf end (row_step i goal choice words before) before after → end ≡ StepEnd.Ended → ⊥
step_goes_on end i goal choice words before after is e =
    goes_on (ChangesOnly (IsHitByOne (destinations_of i before (inst_row i))) before) end
    (row_step i goal choice words before) before after (step_changes i goal choice words before) is e
