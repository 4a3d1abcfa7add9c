-- The row that tells a line's entries tells its steps too.
use Rattle.std.proofs.Common.{◌≡◌, inl, inr, ℕ, zero, suc, ◌≤◌, ◌&&◌, List, [], length, slice_get, Bool, true, false, if◌then◌else◌, Some, refl, ap, sym, subst, ◌∙◌}
use Rattle.asm_core.specs.Entries.{write_of}
use Rattle.asm_core.specs.RowLaws.{FitsTargets, FitsCopies}
use Rattle.asm_core.specs.RowTerms.{repeated}
use Rattle.asm_core.specs.Rows.{line_row, entry_row, is_zero_count, same_register}
use Rattle.asm_core.specs.Steps.{IsAfter}
use Rattle.asm_core.specs.Table.{row_of, is_shift, self_row}
use Rattle.asm_core.specs.Table.Bits.{no_shift_row}
use Rattle.x86_table.specs.TableLaws.{TellsSteps, IsPlain, ObeysTable}
use Rattle.x86_table.proofs.Fits.{row_fits}
use Rattle.x86_table.proofs.OverLaws.{Serves, tells_steps}
use Rattle.x86_table.proofs.SelfSteps.{no_count, self_steps}
use Rattle.x86_table.proofs.ShiftSteps.{shift_steps}
use Rattle.x86_table.proofs.TableTurns.{HasTurn, has_turn, never_over}
use Rattle.asm_core.specs.declared.inst.Op.{Op}
use Rattle.asm_core.specs.declared.inst.Repeat.{Repeat}
use Rattle.asm_core.specs.declared.inst.Width.{Width}
use Rattle.asm_core.specs.declared.sym.Sym.{Sym}
use Rattle.asm_core.specs.declared.placement.Placement.{Placement}
use Rattle.asm_core.specs.declared.micro_op.MicroOp.{MicroOp}
use Rattle.asm_core.specs.declared.row.Write.{Write}

-- ---- the line's own row

own_serves : (s : Sym) → Serves s (line_row s)
own_serves s = record { turn = has_turn s.repeat s.op s.width (length s.args); fits = λ p h. h; copies = λ p h. h; step = λ x h. h }

line_tells : (s : Sym) → length s.args ≤ 3 → TellsSteps s (line_row s)
line_tells s few = tells_steps s (line_row s) few (own_serves s)

-- ---- one register with itself

self_turn : (op : Op) (w : Width) (n : ℕ) → HasTurn (self_row op (row_of op w n))
self_turn Op.Xor w n = inl (λ vs. refl)
self_turn Op.Sub w n = inl (λ vs. refl)
self_turn Op.Sbb w n = inl (λ vs. refl)
self_turn op w n = inl (never_over op w n)

self_fits : (p : Placement) (s : Sym) (op : Op) (w : Width) (n : ℕ) → FitsTargets p s (row_of op w n) → FitsTargets p s (self_row op (row_of op w n))
self_fits p s Op.Xor w n h = h
self_fits p s Op.Sub w n h = h
self_fits p s Op.Sbb w n h = h
self_fits p s op w n h = h

self_copies : (p : Placement) (s : Sym) (op : Op) (w : Width) (n : ℕ) → FitsCopies p s (row_of op w n) → FitsCopies p s (self_row op (row_of op w n))
self_copies p s Op.Xor w n h = h
self_copies p s Op.Sub w n h = h
self_copies p s Op.Sbb w n h = h
self_copies p s op w n h = h

self_serves : (s : Sym) → s.repeat ≡ Repeat.No → same_register (slice_get s.args 0) (slice_get s.args 1) ≡ true → entry_row s ≡ self_row s.op (line_row s) → Serves s (entry_row s)
self_serves s no_prefix same is_self = record {
  turn = subst HasTurn (sym is_plain) (self_turn s.op s.width (length s.args));
  fits = λ p h. subst (FitsTargets p s) (sym is_plain) (self_fits p s s.op s.width (length s.args) (subst (FitsTargets p s) own h));
  copies = λ p h. subst (FitsCopies p s) (sym is_plain) (self_copies p s s.op s.width (length s.args) (subst (FitsCopies p s) own h));
  step = λ x h. subst (λ end. IsAfter end x.after) (sym (self_steps x.at s no_prefix same x.goal x.choice x.words x.before)) h;
}
  where
    own : line_row s ≡ row_of s.op s.width (length s.args)
    own = ap (λ r. repeated r (row_of s.op s.width (length s.args))) no_prefix

    is_plain : entry_row s ≡ self_row s.op (row_of s.op s.width (length s.args))
    is_plain = is_self ∙ ap (self_row s.op) own

-- ---- a shift by 0

touch_writes : (s : Sym) (n k : ℕ) (op : MicroOp) (w : Write) → slice_get (no_shift_row n) k ≡ Some op → write_of s op ≡ Some w → ⊥
touch_writes s zero k op w at is = by_place k at
  where
    by_place : (k : ℕ) → slice_get (no_shift_row 0) k ≡ Some op → ⊥
    by_place zero at = cc
    by_place (suc k) at = cc
touch_writes s (suc zero) k op w at is = by_place k at
  where
    by_place : (k : ℕ) → slice_get (no_shift_row 1) k ≡ Some op → ⊥
    by_place zero at = cc
    by_place (suc k) at = cc
touch_writes s (suc (suc zero)) k op w at is = by_place k at
  where
    by_place : (k : ℕ) → slice_get (no_shift_row 2) k ≡ Some op → ⊥
    by_place zero at = cc
    by_place (suc k) at = cc
touch_writes s (suc (suc (suc n))) k op w at is = by_place k at
  where
    by_place : (k : ℕ) → slice_get (no_shift_row (suc (suc (suc n)))) k ≡ Some op → ⊥
    by_place zero at = cc
    by_place (suc k) at = cc

shift_tells : (s : Sym) → s.repeat ≡ Repeat.No → is_shift s.op ≡ true → is_zero_count (slice_get s.args 0) ≡ true → TellsSteps s (no_shift_row (length s.args))
shift_tells s no_prefix shift zero_count = record {
  changes = λ x stepped. let none = shift_steps s no_prefix shift zero_count x stepped in record { components = λ c missed. none.components c (λ h. h); layouts = none.layouts };
  values = λ x stepped k o w c last. absurd (touch_writes s (length s.args) k last.op w last.is_op last.is_write);
  writes = λ x y stepped_x stepped_y k o w c d last_x last_y agrees. absurd (touch_writes s (length s.args) k last_x.op w last_x.is_op last_x.is_write);
  copies = λ x stepped enough k o w c n last is. absurd (touch_writes s (length s.args) k last.op w last.is_op last.is_write);
}

-- ---- all lines

module _ (s : Sym) (few : length s.args ≤ 3) where
  abbrev entry_by : Bool → Bool → Bool → List MicroOp
  entry_by shift zero_count self = if shift && zero_count then no_shift_row (length s.args) else if self then self_row s.op (line_row s) else line_row s

  unprefixed : s.repeat ≡ Repeat.No → (shift zero_count self : Bool) → is_shift s.op ≡ shift → is_zero_count (slice_get s.args 0) ≡ zero_count → same_register (slice_get s.args 0) (slice_get s.args 1) ≡ self
      → entry_row s ≡ entry_by shift zero_count self → TellsSteps s (entry_row s)
  unprefixed no_prefix true true self a b c e = subst (TellsSteps s) (sym e) (shift_tells s no_prefix a b)
  unprefixed no_prefix true false true a b c e = tells_steps s (entry_row s) few (self_serves s no_prefix c e)
  unprefixed no_prefix true false false a b c e = subst (TellsSteps s) (sym e) (line_tells s few)
  unprefixed no_prefix false zero_count true a b c e = tells_steps s (entry_row s) few (self_serves s no_prefix c e)
  unprefixed no_prefix false zero_count false a b c e = subst (TellsSteps s) (sym e) (line_tells s few)

  bare : s.args ≡ [] → entry_row s ≡ line_row s
  bare none =
      ap (λ b. entry_by (is_shift s.op) b (same_register (slice_get s.args 0) (slice_get s.args 1))) (ap (λ l. is_zero_count (slice_get l 0)) none)
      ∙ ap (entry_by (is_shift s.op) false) (ap (λ l. same_register (slice_get l 0) (slice_get l 1)) none)
      ∙ ap (λ t. if t then no_shift_row (length s.args) else line_row s) (no_count (is_shift s.op))

  entry_tells : IsPlain s → TellsSteps s (entry_row s)
  entry_tells (inl no_prefix) = unprefixed no_prefix (is_shift s.op) (is_zero_count (slice_get s.args 0)) (same_register (slice_get s.args 0) (slice_get s.args 1)) refl refl refl refl
  entry_tells (inr none) = subst (TellsSteps s) (sym (bare none)) (line_tells s few)

pub obeys_table : ObeysTable
obeys_table = record { lines = line_tells; entries = entry_tells; fits = λ s row has p. row_fits p s row has }
