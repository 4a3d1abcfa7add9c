-- A step of any row changes only what is at its destinations.
use Rattle.std.proofs.Common.{◌≡◌, ℕ, ◌+◌, List, Bool, true, false, not, if◌then◌else◌, refl, ◌∙◌, ap, sym, subst}
use Rattle.std.specs.List.{list_all}
use Rattle.asm_core.specs.MicroOps.{Stepped, is_good_op, destinations_of, is_over, divides, takes_outside, next_of, put_all, moved, written, ended_by, values_of, read_in}
use Rattle.asm_core.specs.RowLaws.{HoldsAfter, Component, component_in, ChangesOnly, IsHitByOne}
use Rattle.asm_core.specs.Machine.{layouts_of}
use Rattle.asm_core.specs.Rows.{inst_row, row_step, IsStepOf}
use Rattle.asm_core.specs.declared.row.StepEnd.{StepEnd}
use Rattle.asm_core.proofs.Puts.{put_all_keeps, put_all_layouts}
use Rattle.asm_core.specs.declared.inst.Inst.{Inst}
use Rattle.asm_core.specs.declared.micro_op.MicroOp.{MicroOp}
use Rattle.asm_core.specs.declared.machine.Fault.{Fault}
use Rattle.asm_core.specs.declared.machine.Machine.{Machine}

-- what holds of the state before, moved on, and of the state with the values written, holds after a step
pub ended_holds : (P : Machine → Type 0) (row : List MicroOp) (i : Inst) (goal : ℕ) (vs : List ℕ) (m : Machine)
    → (is_over row vs ≡ true → P (record m { at = m.at + 1 })) → (is_over row vs ≡ false → P (written row i goal vs m)) → HoldsAfter P (ended_by row i goal vs m)
ended_holds P row i goal vs m idle done = by_over (is_over row vs) refl
  where
    by_outside : (outside : Bool) → P (written row i goal vs m) → HoldsAfter P (moved outside (written row i goal vs m))
    by_outside true h = h
    by_outside false h = h

    by_divide : (d : Bool) → P (written row i goal vs m) → HoldsAfter P (if d then Stepped.Faulted Fault.Divide else moved (takes_outside row) (written row i goal vs m))
    by_divide true h = tt
    by_divide false h = by_outside (takes_outside row) h

    by_good : (good : Bool) → P (written row i goal vs m)
        → HoldsAfter P (if not good then Stepped.Faulted Fault.Access else if divides row vs then Stepped.Faulted Fault.Divide else moved (takes_outside row) (written row i goal vs m))
    by_good true h = by_divide (divides row vs) h
    by_good false h = tt

    by_over : (over : Bool) → is_over row vs ≡ over
        → HoldsAfter P (if over then Stepped.Moved (record m { at = m.at + 1 }) else if not (list_all (is_good_op i m) row) then Stepped.Faulted Fault.Access else if divides row vs then Stepped.Faulted Fault.Divide else moved (takes_outside row) (written row i goal vs m))
    by_over true e = idle e
    by_over false e = by_good (list_all (is_good_op i m) row) (done e)

-- the position is no component
pub at_kept : (c : Component) (m : Machine) (n : ℕ) → component_in c (record m { at = n }) ≡ component_in c m
at_kept (Component.WholeRegister r) m n = refl
at_kept (Component.RegisterByte r j) m n = refl
at_kept (Component.FlagBit f) m n = refl
at_kept (Component.MemoryByte a) m n = refl
at_kept (Component.ScratchByte j) m n = refl
at_kept Component.Depth m n = refl
at_kept Component.Esp m n = refl

-- the first law: beside the position a step changes only what is at its destinations
pub row_changes : (row : List MicroOp) (i : Inst) (goal : ℕ) (vs : List ℕ) (m : Machine) → HoldsAfter (ChangesOnly (IsHitByOne (destinations_of i m row)) m) (ended_by row i goal vs m)
row_changes row i goal vs m =
    ended_holds (ChangesOnly (IsHitByOne (destinations_of i m row)) m) row i goal vs m
    (λ e. record { components = λ c missed. at_kept c m (m.at + 1); layouts = refl })
    (λ e. record { components = λ c missed. at_kept c (put_all (destinations_of i m row) 0 vs m) (next_of row vs goal m.at) ∙ put_all_keeps (destinations_of i m row) 0 vs m c missed; layouts = put_all_layouts (destinations_of i m row) 0 vs m })

pub step_changes : (i : Inst) (goal choice : ℕ) (words : List ℕ) (m : Machine) → HoldsAfter (ChangesOnly (IsHitByOne (destinations_of i m (inst_row i))) m) (row_step i goal choice words m)
step_changes i goal choice words m = row_changes (inst_row i) i goal (values_of i.width (read_in i choice words m) (inst_row i)) m

-- the first law for a call that steps: a fault leaves the state before
pub call_changes : (May : Component → Type 0) (end : StepEnd) (s : Stepped) (before after : Machine) → HoldsAfter (ChangesOnly May before) s → IsStepOf end s before after → ChangesOnly May before after
call_changes May end (Stepped.Moved next) before after h is = subst (ChangesOnly May before) (sym is.1) h
call_changes May end (Stepped.MovedOutside next) before after h is = subst (ChangesOnly May before) (sym is.1) h
call_changes May end Stepped.Ended before after h is = absurd h
call_changes May end (Stepped.Faulted fault) before after h is = record { components = λ c missed. ap (component_in c) is.1; layouts = ap (λ (m : Machine). layouts_of m.ranges) is.1 }
