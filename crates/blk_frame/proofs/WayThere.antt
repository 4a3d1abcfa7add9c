-- A step goes on at a node to which a way goes, or, if the line is repeated, at the same one.
use Rattle.std.proofs.Common.{◌≡◌, ◌⊎◌, inl, inr, ℕ, zero, suc, ◌+◌, ◌&&◌, ◌||◌, Bool, true, false, List, [], ◌∷◌, ◌++◌, length, slice_index, Some, slice_get, if◌then◌else◌, refl, sym, ap, ◌∙◌}
use Rattle.std.proofs.lemmas.Bool.{both_ways}
use Rattle.asm_core.specs.MicroOps.{is_set, is_jump, is_stay, any_value, is_over, values_of}
use Rattle.asm_core.specs.RowTerms.{op1, op3, arg, to_arg, repeated}
use Rattle.asm_core.specs.Rows.{line_row}
use Rattle.asm_core.specs.Steps.{Stand, reads_at}
use Rattle.asm_core.specs.Table.{row_of}
use Rattle.asm_core.specs.Table.Moves.{condition}
use Rattle.asm_core.specs.declared.cond.Cond.{Cond}
use Rattle.asm_core.specs.declared.inst.Op.{Op}
use Rattle.asm_core.specs.declared.inst.Repeat.{Repeat}
use Rattle.asm_core.specs.declared.inst.Width.{Width}
use Rattle.asm_core.specs.declared.sym.Sym.{Sym}
use Rattle.asm_core.specs.declared.lines.Graph.{Graph}
use Rattle.asm_core.specs.declared.micro_op.Input.{Input}
use Rattle.asm_core.specs.declared.micro_op.Target.{Target}
use Rattle.asm_core.specs.declared.micro_op.Function.{Function}
use Rattle.asm_core.specs.declared.micro_op.MicroOp.{MicroOp}
use Rattle.asm_core.specs.declared.machine.Machine.{Machine}
use Rattle.blk_deps.specs.Ways.{goes}
use Rattle.blk_deps.specs.Ways as ways
use Rattle.blk_flow.specs.Graph.{always_jumps}
use Rattle.x86_table.specs.TableLaws.{IsStepped}
use Rattle.x86_table.proofs.TableTurns.{never_over}
use Rattle.blk_frame.proofs.Basics.{by_truth}
use Rattle.blk_frame.proofs.LineEnds.{values_at, line_ended}

-- ---- no row of the table stays by itself

after_condition : (c : Cond) (op : MicroOp) (vs : List ℕ) → is_stay op.target ≡ false
    → any_value is_stay is_set (condition c ++ op ∷ []) 0 vs ≡ false
after_condition Cond.O op vs none = ap (λ t. t && is_set (slice_index vs 3) || false) none
after_condition c op vs none = ap (λ t. t && is_set (slice_index vs 3) || false) none

never_stays : (op : Op) (w : Width) (n : ℕ) (vs : List ℕ) → any_value is_stay is_set (row_of op w n) 0 vs ≡ false
never_stays (Op.Cmov c) w n vs = after_condition c
    (op3 (to_arg 1) Function.Pick (Input.Earlier 2) (arg 0) (arg 1)) vs refl
never_stays (Op.Set c) w n vs = after_condition c (op1 (to_arg 0) Function.Value (Input.Earlier 2)) vs refl
never_stays (Op.J c) w n vs = after_condition c (op1 Target.Jump Function.Value (Input.Earlier 2)) vs refl
never_stays Op.Imul w zero vs = refl
never_stays Op.Imul w (suc zero) vs = refl
never_stays Op.Imul w (suc (suc zero)) vs = refl
never_stays Op.Imul w (suc (suc (suc n))) vs = refl
never_stays Op.Shl w zero vs = refl
never_stays Op.Shl w (suc zero) vs = refl
never_stays Op.Shl w (suc (suc n)) vs = refl
never_stays Op.Shr w zero vs = refl
never_stays Op.Shr w (suc zero) vs = refl
never_stays Op.Shr w (suc (suc n)) vs = refl
never_stays Op.Sar w zero vs = refl
never_stays Op.Sar w (suc zero) vs = refl
never_stays Op.Sar w (suc (suc n)) vs = refl
never_stays Op.Rol w zero vs = refl
never_stays Op.Rol w (suc zero) vs = refl
never_stays Op.Rol w (suc (suc n)) vs = refl
never_stays Op.Ror w zero vs = refl
never_stays Op.Ror w (suc zero) vs = refl
never_stays Op.Ror w (suc (suc n)) vs = refl
never_stays op w n vs = refl

-- the row of a line that isn't repeated
pub plain_row : (line : Sym) → line.repeat ≡ Repeat.No → line_row line ≡ row_of line.op line.width (length line.args)
plain_row line none = ap (λ r. repeated r (row_of line.op line.width (length line.args))) none

only_jmp : (op : Op) → always_jumps op ≡ true → op ≡ Op.Jmp
only_jmp Op.Jmp is = refl
only_jmp op is = cc

-- ---- where a step goes on

module _ (g : Graph) (line : Sym) (n : ℕ) (x : Stand) (at : slice_get g.insts n ≡ Some line) (is_at : x.before.at ≡ n)
    (is_goal : x.goal ≡ slice_index g.goals n) (once : always_jumps line.op ≡ true → line.repeat ≡ Repeat.No)
    (stepped : IsStepped line x) where
  abbrev IsWay : ℕ → Type 0
  IsWay to = (to ≡ goes g n 0) ⊎ ((to ≡ goes g n 1) ⊎ ((line.repeat ≡ Repeat.No → ⊥) × (to ≡ n)))

  -- what always jumps is the jump alone
  jump_row : always_jumps line.op ≡ true → line_row line ≡ row_of Op.Jmp line.width (length line.args)
  jump_row is = plain_row line (once is)
      ∙ ap (λ op. row_of op line.width (length line.args)) (only_jmp line.op is)

  jumps_on : always_jumps line.op ≡ true → any_value is_jump is_set (line_row line) 0 (values_at line x) ≡ true
  jumps_on is = ap (λ row. any_value is_jump is_set row 0 (values_of line.width (reads_at line x) row)) (jump_row is)

  next_way : always_jumps line.op ≡ false → x.before.at + 1 ≡ goes g n 0
  next_way none = ap (λ k. k + 1) is_at ∙ sym (ap (λ j. if j then slice_index g.goals n else n + 1) none)
      ∙ sym (ap (ways.next_of g n) at)

  not_over : always_jumps line.op ≡ true → is_over (line_row line) (values_at line x) ≡ false
  not_over is = ap (λ row. is_over row (values_at line x)) (jump_row is)
      ∙ never_over Op.Jmp line.width (length line.args) (values_at line x)

  idle : is_over (line_row line) (values_at line x) ≡ true → IsWay (x.before.at + 1)
  idle over = by_truth (always_jumps line.op) (λ is. absurd (both_ways _ (not_over is) over))
      (λ none. inl (next_way none))

  stays_repeated : any_value is_stay is_set (line_row line) 0 (values_at line x) ≡ true → line.repeat ≡ Repeat.No → ⊥
  stays_repeated stays none =
      both_ways _ (never_stays line.op line.width (length line.args) (values_at line x))
      (sym (ap (λ row. any_value is_stay is_set row 0 (values_at line x)) (plain_row line none)) ∙ stays)

  by_stay : (stays : Bool) → any_value is_stay is_set (line_row line) 0 (values_at line x) ≡ stays
      → always_jumps line.op ≡ false → IsWay (if stays then x.before.at else x.before.at + 1)
  by_stay true is none = inr (inr (stays_repeated is, is_at))
  by_stay false is none = inl (next_way none)

  by_jump : (jump : Bool) → any_value is_jump is_set (line_row line) 0 (values_at line x) ≡ jump
      → IsWay (if jump then x.goal else if any_value is_stay is_set (line_row line) 0 (values_at line x)
      then x.before.at else x.before.at + 1)
  by_jump true is = inr (inl is_goal)
  by_jump false is = by_truth (always_jumps line.op) (λ always. absurd (both_ways _ is (jumps_on always)))
      (by_stay (any_value is_stay is_set (line_row line) 0 (values_at line x)) refl)

  ends_there : IsWay x.after.at
  ends_there = line_ended (λ (m : Machine). IsWay m.at) line x stepped idle
      (λ more. by_jump (any_value is_jump is_set (line_row line) 0 (values_at line x)) refl)

pub way_there : (g : Graph) (line : Sym) (n : ℕ) (x : Stand) → slice_get g.insts n ≡ Some line → x.before.at ≡ n
    → x.goal ≡ slice_index g.goals n → (always_jumps line.op ≡ true → line.repeat ≡ Repeat.No) → IsStepped line x
    → (x.after.at ≡ goes g n 0) ⊎ ((x.after.at ≡ goes g n 1) ⊎ ((line.repeat ≡ Repeat.No → ⊥) × (x.after.at ≡ n)))
way_there g line n x at is_at is_goal once stepped = ends_there g line n x at is_at is_goal once stepped
