-- Runs of code: what becomes of a state within n steps.
use Rattle.std.specs.Prelude.{ℕ, zero, suc, List, [], ◌∷◌, drop, Option, None, Some, slice_get, slice_index}
use Rattle.asm_core.specs.MicroOps.{Stepped}
use Rattle.asm_core.specs.Rows.{row_step}
use Rattle.asm_core.specs.declared.inst.Inst.{Inst}
use Rattle.asm_core.specs.declared.inst.Code.{Code}
use Rattle.asm_core.specs.declared.machine.Fault.{Fault}
use Rattle.asm_core.specs.declared.machine.Machine.{Machine}

-- how a run of at most n steps ends, with the last state
pub data Outcome : Type 0 where
  Ended : Machine → Outcome
  Going : Machine → Outcome
  Failed : Fault → Machine → Outcome

abbrev pub at_inst : Option Inst → ℕ → ℕ → List ℕ → Machine → Stepped
at_inst None goal choice words m = Stepped.Ended
at_inst (Some i) goal choice words m = row_step i goal choice words m

-- one step of code, ended at the number of its instructions
abbrev pub step_of : Code → ℕ → List ℕ → Machine → Stepped
step_of code choice words m = at_inst (slice_get code.insts m.at) (slice_index code.goals m.at) choice words m

abbrev pub stopped : Option Inst → Machine → Outcome
stopped None m = Outcome.Ended m
stopped (Some i) m = Outcome.Going m

-- what comes after a step; an instruction that learned from outside has used up four words
abbrev pub after : Stepped → Machine → List (List ℕ) → (List (List ℕ) → Machine → Outcome) → Outcome
after (Stepped.Moved next) m outside run = run outside next
after (Stepped.MovedOutside next) m outside run = run (drop 1 outside) next
after Stepped.Ended m outside run = Outcome.Ended m
after (Stepped.Faulted fault) m outside run = Outcome.Failed fault m

-- the first words, none where there are no more
abbrev pub first_words : List (List ℕ) → List ℕ
first_words [] = []
first_words (w ∷ ws) = w

-- the result after at most n steps; choices past the list's end are 0
abbrev pub run_of : Code → ℕ → List ℕ → List (List ℕ) → Machine → Outcome
run_of code zero choices outside m = stopped (slice_get code.insts m.at) m
run_of code (suc n) choices outside m =
    after (step_of code (slice_index choices 0) (first_words outside) m) m outside (run_of code n (drop 1 choices))
