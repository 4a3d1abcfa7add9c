-- What each step keeps, a run keeps. Nothing here knows an instruction.
use Rattle.std.proofs.Common.{◌≡◌, ℕ, zero, suc, List, drop, Option, None, Some, slice_get, slice_index, refl}
use Rattle.asm_core.specs.MicroOps.{Stepped}
use Rattle.asm_core.specs.RowLaws.{HoldsAfter}
use Rattle.asm_core.specs.Rows.{row_step}
use Rattle.asm_core.specs.Run.{Outcome, at_inst, stopped, after, first_words, run_of}
use Rattle.asm_core.specs.declared.inst.Inst.{Inst}
use Rattle.asm_core.specs.declared.inst.Code.{Code}
use Rattle.asm_core.specs.declared.machine.Machine.{Machine}

-- each instruction of the code keeps the property
pub record IsKept (P : Machine → Type 0) (code : Code) : Type 0 where
  pub each : (m : Machine) (i : Inst) (choice : ℕ) (words : List ℕ) → slice_get code.insts m.at ≡ Some i → P m → HoldsAfter P (row_step i (slice_index code.goals m.at) choice words m)

-- the property holds of the last state, and a run that ended has passed the last instruction
abbrev pub EndsIn : (Machine → Type 0) → Code → Outcome → Type 0
EndsIn P code (Outcome.Ended m) = P m × (slice_get code.insts m.at ≡ None)
EndsIn P code (Outcome.Going m) = P m
EndsIn P code (Outcome.Failed fault m) = P m

module _ (P : Machine → Type 0) (code : Code) where
  at_stop : (o : Option Inst) (m : Machine) → slice_get code.insts m.at ≡ o → P m → EndsIn P code (stopped o m)
  at_stop None m e h = (h, e)
  at_stop (Some i) m e h = h

  after_step : (s : Stepped) (m : Machine) (outside : List (List ℕ)) (run : List (List ℕ) → Machine → Outcome) → P m → HoldsAfter P s → ((words : List (List ℕ)) (next : Machine) → P next → EndsIn P code (run words next)) → EndsIn P code (after s m outside run)
  after_step (Stepped.Moved next) m outside run h kept rest = rest outside next kept
  after_step (Stepped.MovedOutside next) m outside run h kept rest = rest (drop 1 outside) next kept
  after_step Stepped.Ended m outside run h kept rest = absurd kept
  after_step (Stepped.Faulted fault) m outside run h kept rest = h

  at_step : (o : Option Inst) (choice : ℕ) (m : Machine) (outside : List (List ℕ)) (run : List (List ℕ) → Machine → Outcome) → IsKept P code → slice_get code.insts m.at ≡ o → P m → ((words : List (List ℕ)) (next : Machine) → P next → EndsIn P code (run words next)) → EndsIn P code (after (at_inst o (slice_index code.goals m.at) choice (first_words outside) m) m outside run)
  at_step None choice m outside run kept e h rest = (h, e)
  at_step (Some i) choice m outside run kept e h rest = after_step (row_step i (slice_index code.goals m.at) choice (first_words outside) m) m outside run h (kept.each m i choice (first_words outside) e h) rest

  -- what each step keeps holds at the end, on the way and where an instruction faults
  pub runs_in : IsKept P code → (n : ℕ) (choices : List ℕ) (outside : List (List ℕ)) (m : Machine) → P m → EndsIn P code (run_of code n choices outside m)
  runs_in kept zero choices outside m h = at_stop (slice_get code.insts m.at) m refl h
  runs_in kept (suc n) choices outside m h =
      at_step (slice_get code.insts m.at) (slice_index choices 0) m outside (run_of code n (drop 1 choices)) kept refl h (λ words next holds. runs_in kept n (drop 1 choices) words next holds)
