-- What each step of code that is no fault keeps, a run of the code keeps.
use Rattle.std.proofs.Common.{◌≡◌, ℕ, List, Some, slice_get, slice_index, refl}
use Rattle.asm_core.specs.MicroOps.{Stepped, values_of, read_in}
use Rattle.asm_core.specs.RowLaws.{HoldsAfter}
use Rattle.asm_core.specs.Rows.{inst_row, row_step}
use Rattle.asm_core.specs.Run.{run_of}
use Rattle.asm_core.specs.Steps.{IsAfter}
use Rattle.asm_core.specs.declared.inst.Inst.{Inst}
use Rattle.asm_core.specs.declared.inst.Code.{Code}
use Rattle.asm_core.specs.declared.machine.Machine.{Machine}
use Rattle.asm_core.proofs.Runs as runs
use Rattle.asm_core.proofs.Runs.{EndsIn}
use Rattle.asm_core.proofs.StepLaws.{ended_holds}

-- a step is no end
goes_on : (i : Inst) (goal choice : ℕ) (words : List ℕ) (m : Machine)
    → HoldsAfter (λ next. Unit {0}) (row_step i goal choice words m)
goes_on i goal choice words m =
    ended_holds (λ next. Unit {0}) (inst_row i) i goal (values_of i.width (read_in i choice words m) (inst_row i)) m
    (λ over. tt) (λ done. tt)

holds_if : (P : Machine → Type 0) (s : Stepped) → HoldsAfter (λ next. Unit {0}) s
    → ((after : Machine) → IsAfter s after → P after) → HoldsAfter P s
holds_if P (Stepped.Moved next) is each = each next refl
holds_if P (Stepped.MovedOutside next) is each = each next refl
holds_if P Stepped.Ended is each = absurd is
holds_if P (Stepped.Faulted fault) is each = tt

module _ (code : Code) (Inv : Machine → Type 0) where
  pub runs_in : ((m : Machine) (inst : Inst) (choice : ℕ) (words : List ℕ) (after : Machine) → Inv m
      → slice_get code.insts m.at ≡ Some inst
      → IsAfter (row_step inst (slice_index code.goals m.at) choice words m) after → Inv after)
      → (n : ℕ) (choices : List ℕ) (outside : List (List ℕ)) (m : Machine) → Inv m
      → EndsIn Inv code (run_of code n choices outside m)
  runs_in each = runs.runs_in Inv code (record {
    each = λ m inst choice words at holds.
        holds_if Inv (row_step inst (slice_index code.goals m.at) choice words m)
        (goes_on inst (slice_index code.goals m.at) choice words m)
        (λ after is. each m inst choice words after holds at is);
  })
