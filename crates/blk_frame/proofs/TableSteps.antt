-- The steps of the table's lines are steps as the world takes them.
use Rattle.std.proofs.Common.{◌≡◌, ℕ, ◌<◌, ◌≤◌, true, List, [], ◌∷◌, zero, suc, Option, None, Some, slice_get, refl, ap, ◌∙◌}
use Rattle.std.specs.List.{list_any, cons_option}
use Rattle.std.proofs.lemmas.Bool.{or_right}
use Rattle.asm_core.specs.Entries.{write_of, write_to, writes_of, by_of}
use Rattle.asm_core.specs.Rows.{line_row, entry_row}
use Rattle.asm_core.specs.RowLaws.{IsPlaced, FitsCopies}
use Rattle.asm_core.specs.Steps.{Stand}
use Rattle.asm_core.specs.WellFormed.{IsInterface}
use Rattle.asm_core.specs.declared.sym.Sym.{Sym}
use Rattle.asm_core.specs.declared.row.By.{By}
use Rattle.asm_core.specs.declared.row.Write.{Write}
use Rattle.asm_core.specs.declared.micro_op.Target.{Target}
use Rattle.asm_core.specs.declared.micro_op.MicroOp.{MicroOp}
use Rattle.asm_core.specs.declared.shape.Shape.{Shape}
use Rattle.asm_core.specs.declared.interface.Interface.{Interface}
use Rattle.x86_table.specs.TableLaws.{IsStepped, IsPlain, ObeysTable}
use Rattle.blk_deps.specs.Stack.{is_push, pushes}
use Rattle.blk_frame.specs.Lines.{IsOfShape, IsStepOfLine}
use Rattle.blk_frame.proofs.TableRows.{entry_plain}

-- a row that has a push pushes
push_written : (line : Sym) (by : By) (target : Target) (ws : List Write) → target ≡ Target.Push
    → list_any (λ (w : Write). is_push w.to) (cons_option (write_to line by target) ws) ≡ true
push_written line by Target.Push ws is = refl
push_written line by target ws is = cc

later_written : (written : Option Write) (ws : List Write) → list_any (λ (w : Write). is_push w.to) ws ≡ true
    → list_any (λ (w : Write). is_push w.to) (cons_option written ws) ≡ true
later_written None ws is = is
later_written (Some w) ws is = or_right (is_push w.to) _ is

row_pushes : (line : Sym) (row : List MicroOp) (k : ℕ) (op : MicroOp) → slice_get row k ≡ Some op
    → op.target ≡ Target.Push → list_any (λ (w : Write). is_push w.to) (writes_of row line) ≡ true
row_pushes line [] k op at is = cc
row_pushes line (first ∷ ops) zero op at is = push_written line (by_of line first.function first.x) first.target
    (writes_of ops line) (ap (λ o. elim o [ None ↦ first.target | Some h ↦ h.target ]) at ∙ is)
row_pushes line (first ∷ ops) (suc k) op at is = later_written (write_of line first) (writes_of ops line)
    (row_pushes line ops k op at is)

pub table_step : ObeysTable → (i : Interface) (s : Shape) (depth : ℕ) (line : Sym) (x : Stand) → IsInterface i
    → IsPlaced x.at line → IsOfShape i s line → IsPlain line → IsStepped line x
    → FitsCopies x.at line (line_row line) → x.before.scratch_top ≡ depth → depth ≤ 16
    → (pushes line ≡ true → depth < 16) → IsStepOfLine i s x.at depth line x.before x.after
table_step table i s depth line x interface placed of_shape plain stepped fits at_depth few room = record {
  interface = interface;
  placed = placed;
  of_shape = of_shape;
  at_depth = at_depth;
  few = few;
  room = λ k op at is. room (row_pushes line (entry_row line) k op at is);
  plain = entry_plain line;
  changes = (table.entries line placed.few plain).changes x stepped;
  copies = (table.entries line placed.few plain).copies x stepped fits;
}
