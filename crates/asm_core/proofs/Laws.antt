-- The laws of every row, as calls that step and that tell names state them.
use Rattle.std.proofs.Common.{◌≡◌, ℕ, List, false, sym, subst}
use Rattle.asm_core.specs.MicroOps.{is_over, values_of, read_in, row_ended}
use Rattle.asm_core.specs.Machine.{IsMachine}
use Rattle.asm_core.specs.Reading.Placed.{inst_under}
use Rattle.asm_core.specs.Entries.{known_in, writes_of}
use Rattle.asm_core.specs.Rows.{IsStepOf}
use Rattle.asm_core.specs.RowLaws.{ChangesOnly, IsToldByOne, FitsTargets, FitsCopies, LeavesValues, LeavesCopies}
use Rattle.asm_core.specs.Steps.{IsAfter, PlaysMoves, ObeysLaws, DecidesLine}
use Rattle.asm_core.proofs.CopyLaws.{leaves_values, leaves_copies}
use Rattle.asm_core.proofs.DecideLaws.{holds_of, agrees_on_writes}
use Rattle.asm_core.proofs.EndLaws.{ends_alike}
use Rattle.asm_core.proofs.FactLaws.{names_decide}
use Rattle.asm_core.proofs.Moves.{plays_moves}
use Rattle.asm_core.proofs.PlacedLaws.{steps_as_line}
use Rattle.asm_core.proofs.StepLaws.{call_changes}
use Rattle.asm_core.proofs.WriteLaws.{changes_what_is_told}
use Rattle.asm_core.specs.declared.inst.Inst.{Inst}
use Rattle.asm_core.specs.declared.sym.Sym.{Sym}
use Rattle.asm_core.specs.declared.placement.Placement.{Placement}
use Rattle.asm_core.specs.declared.micro_op.MicroOp.{MicroOp}
use Rattle.asm_core.specs.declared.row.StepEnd.{StepEnd}
use Rattle.asm_core.specs.declared.machine.Machine.{Machine}

-- a call that steps obeys the laws
pub call_obeys : (row : List MicroOp) (i : Inst) (goal choice : ℕ) (words : List ℕ) (end : StepEnd) (before after : Machine) → IsStepOf end (row_ended row i goal choice words before) before after
    → ObeysLaws row i goal choice words before after
call_obeys row i goal choice words end before after is = record {
  changes = changes;
  values = values;
  copies = copies;
  moves = λ is_machine goes_on done. holds_of (PlaysMoves row i (values_of i.width (read_in i choice words before) row) before) (row_ended row i goal choice words before) after (plays_moves row i goal choice words before is_machine goes_on) done;
}
  where
    changes : (p : Placement) (s : Sym) → i ≡ inst_under p s → FitsTargets p s row → ChangesOnly (IsToldByOne p before (writes_of row s)) before after
    changes p s placed fits =
        call_changes (IsToldByOne p before (writes_of row s)) end (row_ended row (inst_under p s) goal choice words before) before after (changes_what_is_told p s before row goal choice words fits)
        (subst (λ x. IsStepOf end (row_ended row x goal choice words before) before after) placed is)

    values : (p : Placement) (s : Sym) → i ≡ inst_under p s → IsMachine before → FitsTargets p s row → is_over row (values_of i.width (read_in i choice words before) row) ≡ false
        → IsAfter (row_ended row i goal choice words before) after → LeavesValues p s row (values_of i.width (read_in i choice words before) row) before after
    values p s placed =
        subst (λ (x : Inst). IsMachine before → FitsTargets p s row → is_over row (values_of x.width (read_in x choice words before) row) ≡ false → IsAfter (row_ended row x goal choice words before) after → LeavesValues p s row (values_of x.width (read_in x choice words before) row) before after)
        (sym placed)
        (λ is_machine fits goes_on done. holds_of (LeavesValues p s row (values_of s.width (read_in (inst_under p s) choice words before) row) before) (row_ended row (inst_under p s) goal choice words before) after
        (leaves_values p s before row goal choice words is_machine fits goes_on) done)

    copies : (p : Placement) (s : Sym) → i ≡ inst_under p s → IsMachine before → FitsTargets p s row → FitsCopies p s row → is_over row (values_of i.width (read_in i choice words before) row) ≡ false
        → IsAfter (row_ended row i goal choice words before) after → LeavesCopies p s row before after
    copies p s placed =
        subst (λ (x : Inst). IsMachine before → FitsTargets p s row → FitsCopies p s row → is_over row (values_of x.width (read_in x choice words before) row) ≡ false → IsAfter (row_ended row x goal choice words before) after → LeavesCopies p s row before after)
        (sym placed)
        (λ is_machine fits enough goes_on done. holds_of (LeavesCopies p s row before) (row_ended row (inst_under p s) goal choice words before) after
        (leaves_copies p s before row goal choice words is_machine fits enough goes_on) done)

-- what a line names decides
pub decides_line : (row : List MicroOp) (s : Sym) → DecidesLine row s
decides_line row s = record {
  names = names_decide row s.width (known_in s);
  placed = λ p h. steps_as_line p s h;
  ends = ends_alike row (known_in s);
  writes = λ few x y done_x done_y. agrees_on_writes row s x y few done_x done_y;
}
