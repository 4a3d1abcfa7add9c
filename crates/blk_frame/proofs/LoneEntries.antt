-- The row of a line's entries that pushes a word or sets the direction flag writes nothing else.
use Rattle.std.proofs.Common.{◌≡◌, ℕ, zero, suc, ◌+◌, ◌&&◌, not, List, [], ◌∷◌, ◌++◌, length, map, Bool, true, false, if◌then◌else◌, slice_get, refl, ap, ◌∙◌}
use Rattle.std.specs.List.{list_all}
use Rattle.std.proofs.lemmas.Bool.{and_parts, and_from}
use Rattle.asm_core.specs.Table.{row_of, is_shift, self_row}
use Rattle.asm_core.specs.Table.Bits.{no_shift_row}
use Rattle.asm_core.specs.Rows.{is_zero_count, same_register, line_row, entry_row}
use Rattle.asm_core.specs.RowTerms.{op1, op2, op3, reg, to_reg, to_flag, as_temporary, guarded_op, guarded, turn_of, repeated}
use Rattle.asm_core.specs.declared.reg.Reg.{Reg}
use Rattle.asm_core.specs.declared.flag.Flag.{Flag}
use Rattle.asm_core.specs.declared.inst.Op.{Op}
use Rattle.asm_core.specs.declared.inst.Repeat.{Repeat}
use Rattle.asm_core.specs.declared.sym.Sym.{Sym}
use Rattle.asm_core.specs.declared.micro_op.Bytes.{Bytes}
use Rattle.asm_core.specs.declared.micro_op.Function.{Function}
use Rattle.asm_core.specs.declared.micro_op.Site.{Site}
use Rattle.asm_core.specs.declared.micro_op.Input.{Input}
use Rattle.asm_core.specs.declared.micro_op.Target.{Target}
use Rattle.asm_core.specs.declared.micro_op.MicroOp.{MicroOp}
use Rattle.blk_frame.proofs.LoneRows.{is_pushed, is_direction, no_push, no_direction, pushes_alone, sets_direction, row_direction, row_pushes}

-- ---- turns of repeated instructions

module _ (test : Target → Bool) where
  abbrev has_none : List MicroOp → Bool
  has_none = list_all (λ (op : MicroOp). not (test op.target))

  none_append : (xs ys : List MicroOp) → has_none xs ≡ true → has_none ys ≡ true → has_none (xs ++ ys) ≡ true
  none_append [] ys first second = second
  none_append (op ∷ ops) ys first second =
      let parts = and_parts (not (test op.target)) (has_none ops) first in
      and_from (not (test op.target)) (has_none (ops ++ ys)) parts.0 (none_append ops ys parts.1 second)

  alone : (op : MicroOp) → test op.target ≡ false → has_none (op ∷ []) ≡ true
  alone op is = and_from (not (test op.target)) true (ap not is) refl

  temporaries : test Target.Temporary ≡ false → (row : List MicroOp) → has_none (map as_temporary row) ≡ true
  temporaries is [] = refl
  temporaries is (op ∷ ops) = and_from _ _ (ap not is) (temporaries is ops)

  around : (t g : List MicroOp) (a b c d : MicroOp) → has_none t ≡ true → has_none g ≡ true → test a.target ≡ false
      → test b.target ≡ false → test c.target ≡ false → test d.target ≡ false
      → has_none (t ++ a ∷ [] ++ b ∷ [] ++ g ++ c ∷ [] ++ d ∷ []) ≡ true
  around t g a b c d in_t in_g of_a of_b of_c of_d =
      none_append (t ++ a ∷ [] ++ b ∷ [] ++ g ++ c ∷ []) (d ∷ [])
      (none_append (t ++ a ∷ [] ++ b ∷ [] ++ g) (c ∷ [])
      (none_append (t ++ a ∷ [] ++ b ∷ []) g
      (none_append (t ++ a ∷ []) (b ∷ []) (none_append t (a ∷ []) in_t (alone a of_a)) (alone b of_b)) in_g)
      (alone c of_c))
      (alone d of_d)

  module _ (temporary : test Target.Temporary ≡ false) (turn : test Target.Turn ≡ false)
      (stays : test Target.Stay ≡ false) (register : test (to_reg Reg.Ecx Bytes.All) ≡ false) where
    in_turn : (compared : Input) (stay : MicroOp) (row : List MicroOp) → test stay.target ≡ false
        → has_none (guarded (length row) 0 row) ≡ true → has_none (turn_of compared stay row) ≡ true
    in_turn compared stay row last guards =
        around (map as_temporary row) (guarded (length row) 0 row)
        (op2 Target.Turn Function.Value (reg Reg.Ecx Bytes.All) compared)
        (op1 Target.Temporary Function.CountDown (reg Reg.Ecx Bytes.All))
        (op3 (to_reg Reg.Ecx Bytes.All) Function.Pick (Input.Earlier (length row)) (Input.Earlier (length row + 1))
        (Input.Kept (Site.Register Reg.Ecx Bytes.All))) stay
        (temporaries temporary row) guards turn temporary register last

    in_more : (r : Repeat) (row : List MicroOp) → (r ≡ Repeat.No → has_none row ≡ true)
        → has_none (guarded (length row) 0 row) ≡ true → has_none (repeated r row) ≡ true
    in_more Repeat.No row none guards = none refl
    in_more Repeat.Rep row none guards = in_turn _ _ row stays guards
    in_more Repeat.Repe row none guards = in_turn _ _ row stays guards
    in_more Repeat.Repne row none guards = in_turn _ _ row stays guards

-- ---- pushes

alone_from : (row : List MicroOp) → no_push row ≡ true → pushes_alone row ≡ true
alone_from [] is = refl
alone_from (op ∷ []) is = refl
alone_from (op ∷ other ∷ more) is = is

push_guard : (n k : ℕ) (target : Target) (rest : List MicroOp) → no_push rest ≡ true
    → no_push (guarded_op n k target rest) ≡ true
push_guard n k (Target.Site site) rest is = is
push_guard n k target rest is = is

push_guards : (n k : ℕ) (row : List MicroOp) → no_push (guarded n k row) ≡ true
push_guards n k [] = refl
push_guards n k (op ∷ ops) = push_guard n k op.target (guarded n (k + 1) ops) (push_guards n (k + 1) ops)

turn_pushes : (compared : Input) (stay : MicroOp) (row : List MicroOp) → is_pushed stay.target ≡ false
    → pushes_alone (turn_of compared stay row) ≡ true
turn_pushes compared stay row last = alone_from (turn_of compared stay row)
    (in_turn is_pushed refl refl refl refl compared stay row last (push_guards (length row) 0 row))

pushes_repeated : (r : Repeat) (row : List MicroOp) → pushes_alone row ≡ true → pushes_alone (repeated r row) ≡ true
pushes_repeated Repeat.No row is = is
pushes_repeated Repeat.Rep row is = turn_pushes _ _ row refl
pushes_repeated Repeat.Repe row is = turn_pushes _ _ row refl
pushes_repeated Repeat.Repne row is = turn_pushes _ _ row refl

pushes_shift : (n : ℕ) → pushes_alone (no_shift_row n) ≡ true
pushes_shift zero = refl
pushes_shift (suc zero) = refl
pushes_shift (suc (suc zero)) = refl
pushes_shift (suc (suc (suc n))) = refl

pushes_self : (op : Op) (row : List MicroOp) → pushes_alone row ≡ true → pushes_alone (self_row op row) ≡ true
pushes_self Op.Xor row is = refl
pushes_self Op.Sub row is = refl
pushes_self Op.Sbb row is = refl
pushes_self op row is = is

module _ (line : Sym) where
  abbrev chosen : Bool → Bool → List MicroOp
  chosen shift self = if shift then no_shift_row (length line.args) else if self then self_row line.op
      (line_row line) else line_row line

  abbrev is_no_shift : Bool
  is_no_shift = is_shift line.op && is_zero_count (slice_get line.args 0)

  abbrev is_self : Bool
  is_self = same_register (slice_get line.args 0) (slice_get line.args 1)

  pub entry_pushes : pushes_alone (entry_row line) ≡ true
  entry_pushes = by is_no_shift is_self
    where
      row : pushes_alone (line_row line) ≡ true
      row = pushes_repeated line.repeat (row_of line.op line.width (length line.args))
          (row_pushes line.op line.width (length line.args))

      by : (shift self : Bool) → pushes_alone (chosen shift self) ≡ true
      by true self = pushes_shift (length line.args)
      by false true = pushes_self line.op (line_row line) row
      by false false = row

-- ---- the direction flag

direction_guard : (n k : ℕ) (target : Target) (rest : List MicroOp) → is_direction target ≡ false
    → no_direction rest ≡ true → no_direction (guarded_op n k target rest) ≡ true
direction_guard n k (Target.Site site) rest none is =
    and_from (not (is_direction (Target.Site site))) (no_direction rest) (ap not none) is
direction_guard n k target rest none is = is

not_back : (b : Bool) → not b ≡ true → b ≡ false
not_back false is = refl
not_back true is = cc

direction_guards : (n k : ℕ) (row : List MicroOp) → no_direction row ≡ true → no_direction (guarded n k row) ≡ true
direction_guards n k [] is = refl
direction_guards n k (op ∷ ops) is =
    let parts = and_parts (not (is_direction op.target)) (no_direction ops) is in
    direction_guard n k op.target (guarded n (k + 1) ops) (not_back (is_direction op.target) parts.0)
    (direction_guards n (k + 1) ops parts.1)

direction_shift : (n : ℕ) → no_direction (no_shift_row n) ≡ true
direction_shift zero = refl
direction_shift (suc zero) = refl
direction_shift (suc (suc zero)) = refl
direction_shift (suc (suc (suc n))) = refl

direction_self : (op : Op) (row : List MicroOp) → no_direction row ≡ true → no_direction (self_row op row) ≡ true
direction_self Op.Xor row is = refl
direction_self Op.Sub row is = refl
direction_self Op.Sbb row is = refl
direction_self op row is = is

-- an operation that doesn't set the direction flag leaves it, repeated or not
pub entry_direction : (line : Sym) → sets_direction line.op ≡ false → no_direction (entry_row line) ≡ true
entry_direction line none = by (is_no_shift line) (is_self line)
  where
    own : no_direction (row_of line.op line.width (length line.args)) ≡ true
    own = row_direction line.op line.width (length line.args) none

    row : no_direction (line_row line) ≡ true
    row = in_more is_direction refl refl refl refl line.repeat (row_of line.op line.width (length line.args))
        (λ once. own)
        (direction_guards (length (row_of line.op line.width (length line.args))) 0
        (row_of line.op line.width (length line.args)) own)

    by : (shift self : Bool) → no_direction (chosen line shift self) ≡ true
    by true self = direction_shift (length line.args)
    by false true = direction_self line.op (line_row line) row
    by false false = row

abbrev pub set_row : ℕ → List MicroOp
set_row n = op1 (to_flag Flag.Df) Function.Set (Input.Number n) ∷ []

module _ (line : Sym) where
  abbrev row_by : Bool → Op → Repeat → List MicroOp
  row_by self op repeat =
      if is_shift op && is_zero_count (slice_get line.args 0) then no_shift_row (length line.args)
      else if self then self_row op (repeated repeat (row_of op line.width (length line.args)))
      else repeated repeat (row_of op line.width (length line.args))

  cld : (self : Bool) → row_by self Op.Cld Repeat.No ≡ set_row 0
  cld true = refl
  cld false = refl

  std : (self : Bool) → row_by self Op.Std Repeat.No ≡ set_row 1
  std true = refl
  std false = refl

  -- one that sets it, not repeated, sets it to a number and writes nothing else
  pub entry_set : sets_direction line.op ≡ true → line.repeat ≡ Repeat.No → (n : ℕ) × (entry_row line ≡ set_row n)
  entry_set sets once = by_op line.op refl sets
    where
      by_op : (op : Op) → line.op ≡ op → sets_direction op ≡ true → (n : ℕ) × (entry_row line ≡ set_row n)
      by_op Op.Cld e is = (
        0,
        ap (λ op. row_by (is_self line) op line.repeat) e
            ∙ ap (row_by (is_self line) Op.Cld) once ∙ cld (is_self line),
      )
      by_op Op.Std e is = (
        1,
        ap (λ op. row_by (is_self line) op line.repeat) e
            ∙ ap (row_by (is_self line) Op.Std) once ∙ std (is_self line),
      )
      by_op op e is = cc
