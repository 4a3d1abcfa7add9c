-- No row of the table alone is over; one that is repeated is a turn's.
use Rattle.std.proofs.Common.{◌≡◌, ◌⊎◌, inl, inr, ℕ, zero, suc, ◌&&◌, ◌||◌, List, [], ◌∷◌, ◌++◌, length, slice_index, false, refl, ap}
use Rattle.asm_core.specs.MicroOps.{is_zero, is_turn, is_over}
use Rattle.asm_core.specs.RowTerms.{op1, op3, arg, to_arg, zero_input, zf_from, repeated}
use Rattle.asm_core.specs.Table.{row_of}
use Rattle.asm_core.specs.Table.Moves.{condition}
use Rattle.x86_table.proofs.Turns.{IsTurnRow, turn_row}
use Rattle.asm_core.specs.declared.cond.Cond.{Cond}
use Rattle.asm_core.specs.declared.inst.Op.{Op}
use Rattle.asm_core.specs.declared.inst.Repeat.{Repeat}
use Rattle.asm_core.specs.declared.inst.Width.{Width}
use Rattle.asm_core.specs.declared.micro_op.Input.{Input}
use Rattle.asm_core.specs.declared.micro_op.Target.{Target}
use Rattle.asm_core.specs.declared.micro_op.Function.{Function}
use Rattle.asm_core.specs.declared.micro_op.MicroOp.{MicroOp}

after_condition : (c : Cond) (op : MicroOp) (vs : List ℕ) → is_turn op.target ≡ false → is_over (condition c ++ op ∷ []) vs ≡ false
after_condition Cond.O op vs none = ap (λ t. t && is_zero (slice_index vs 3) || false) none
after_condition c op vs none = ap (λ t. t && is_zero (slice_index vs 3) || false) none

pub never_over : (op : Op) (w : Width) (n : ℕ) (vs : List ℕ) → is_over (row_of op w n) vs ≡ false
never_over (Op.Cmov c) w n vs = after_condition c (op3 (to_arg 1) Function.Pick (Input.Earlier 2) (arg 0) (arg 1)) vs refl
never_over (Op.Set c) w n vs = after_condition c (op1 (to_arg 0) Function.Value (Input.Earlier 2)) vs refl
never_over (Op.J c) w n vs = after_condition c (op1 Target.Jump Function.Value (Input.Earlier 2)) vs refl
never_over Op.Imul w zero vs = refl
never_over Op.Imul w (suc zero) vs = refl
never_over Op.Imul w (suc (suc zero)) vs = refl
never_over Op.Imul w (suc (suc (suc n))) vs = refl
never_over Op.Shl w zero vs = refl
never_over Op.Shl w (suc zero) vs = refl
never_over Op.Shl w (suc (suc n)) vs = refl
never_over Op.Shr w zero vs = refl
never_over Op.Shr w (suc zero) vs = refl
never_over Op.Shr w (suc (suc n)) vs = refl
never_over Op.Sar w zero vs = refl
never_over Op.Sar w (suc zero) vs = refl
never_over Op.Sar w (suc (suc n)) vs = refl
never_over Op.Rol w zero vs = refl
never_over Op.Rol w (suc zero) vs = refl
never_over Op.Rol w (suc (suc n)) vs = refl
never_over Op.Ror w zero vs = refl
never_over Op.Ror w (suc zero) vs = refl
never_over Op.Ror w (suc (suc n)) vs = refl
never_over op w n vs = refl

-- a row whose step is never over, or a turn's
abbrev pub HasTurn : List MicroOp → Type 0
HasTurn row = ((vs : List ℕ) → is_over row vs ≡ false) ⊎ (n : ℕ) × IsTurnRow n row

pub has_turn : (repeat : Repeat) (op : Op) (w : Width) (n : ℕ) → HasTurn (repeated repeat (row_of op w n))
has_turn Repeat.No op w n = inl (never_over op w n)
has_turn Repeat.Rep op w n = inr (length (row_of op w n), turn_row zero_input (op1 Target.Stay Function.Value (Input.Number 1)) (row_of op w n) refl refl)
has_turn Repeat.Repe op w n = inr (length (row_of op w n), turn_row (Input.Earlier (zf_from 0 (row_of op w n))) (op1 Target.Stay Function.Value (Input.Earlier (zf_from 0 (row_of op w n)))) (row_of op w n) refl refl)
has_turn Repeat.Repne op w n = inr (length (row_of op w n), turn_row (Input.Earlier (zf_from 0 (row_of op w n))) (op1 Target.Stay Function.IsZero (Input.Earlier (zf_from 0 (row_of op w n)))) (row_of op w n) refl refl)
