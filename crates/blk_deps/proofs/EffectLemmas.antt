-- A line whose row has no micro-operation that pushes or pops neither pushes nor pops.
use Rattle.std.proofs.Common.{◌≡◌, ℕ, zero, suc, ◌+◌, ◌&&◌, ◌||◌, List, [], ◌∷◌, ◌++◌, length, map, Bool, true, false, if◌then◌else◌, slice_get, refl, sym, ap, ◌∙◌}
use Rattle.std.specs.List.{list_any, filter_map, cons_option}
use Rattle.asm_core.specs.Entries.{write_to, write_of, by_of}
use Rattle.asm_core.specs.Table.{row_of, is_shift, self_row}
use Rattle.asm_core.specs.Table.Bits.{no_shift_row}
use Rattle.asm_core.specs.Rows.{is_zero_count, same_register, line_row, entry_row}
use Rattle.asm_core.specs.RowTerms.{op1, op2, op3, reg, to_reg, as_temporary, guarded_op, guarded, turn_of, repeated}
use Rattle.asm_core.specs.declared.inst.Op.{Op}
use Rattle.asm_core.specs.declared.inst.Repeat.{Repeat}
use Rattle.asm_core.specs.declared.sym.Arg.{Arg}
use Rattle.asm_core.specs.declared.sym.Sym.{Sym}
use Rattle.asm_core.specs.declared.flag.Flag.{Flag}
use Rattle.asm_core.specs.declared.reg.Reg.{Reg}
use Rattle.asm_core.specs.declared.micro_op.Bytes.{Bytes}
use Rattle.asm_core.specs.declared.micro_op.Function.{Function}
use Rattle.asm_core.specs.declared.micro_op.Site.{Site}
use Rattle.asm_core.specs.declared.micro_op.Input.{Input}
use Rattle.asm_core.specs.declared.micro_op.Target.{Target}
use Rattle.asm_core.specs.declared.micro_op.MicroOp.{MicroOp}
use Rattle.asm_core.specs.declared.row.Written.{Written}
use Rattle.asm_core.specs.declared.row.By.{By}
use Rattle.asm_core.specs.declared.row.Write.{Write}
use Rattle.blk_deps.specs.Stack.{is_push, is_pop, pushes, pops}
use Rattle.blk_deps.specs.StackTable.{effect_of, moves_stack}
use Rattle.x86_rows.specs.declared.line_entries.LineEntries.{LineEntries}
use Rattle.blk_deps.specs.LineMoves.{AreLineEntries}

abbrev any_moves : List MicroOp → Bool
any_moves = list_any (λ (op : MicroOp). moves_stack op.target)

neither : (a b : Bool) → (a || b) ≡ false → (a ≡ false) × (b ≡ false)
neither true b none = cc
neither false b none = (refl, none)

-- ---- writes

module _ (is : Written → Bool) (of_arg : (arg : Arg) → is (Written.Arg arg) ≡ false)
    (of_flag : (f : Flag) → is (Written.Flag f) ≡ false) where
  abbrev any_write : List Write → Bool
  any_write = list_any (λ (w : Write). is w.to)

  behind_other : (b : Bool) (rest : Bool) → b ≡ false → rest ≡ false → (b || rest) ≡ false
  behind_other true rest first others = first
  behind_other false rest first others = others

  of_target : (s : Sym) (by : By) (target : Target) (ws : List Write) → moves_stack target ≡ false → any_write ws
      ≡ false
      → any_write (cons_option (write_to s by target) ws) ≡ false
  of_target s by (Target.Site (Site.Argument k bytes)) ws none rest = behind_other _ (any_write ws) (of_arg _) rest
  of_target s by (Target.Site (Site.Register r bytes)) ws none rest = behind_other _ (any_write ws) (of_arg _) rest
  of_target s by (Target.Site (Site.Pointed r)) ws none rest = behind_other _ (any_write ws) (of_arg _) rest
  of_target s by (Target.Site (Site.Flag f)) ws none rest = behind_other _ (any_write ws) (of_flag f) rest
  of_target s by Target.Push ws none rest = cc
  of_target s by Target.Pop ws none rest = cc
  of_target s by target ws none rest = rest

  none_written : (s : Sym) (ops : List MicroOp) → any_moves ops ≡ false → any_write (filter_map (write_of s) ops)
      ≡ false
  none_written s [] none = refl
  none_written s (op ∷ ops) none =
      let both = neither (moves_stack op.target) (any_moves ops) none in
      of_target s (by_of s op.function op.x) op.target (filter_map (write_of s) ops) both.0 (none_written s ops both.1)

-- ---- rows

none_append : (xs ys : List MicroOp) → any_moves xs ≡ false → any_moves ys ≡ false → any_moves (xs ++ ys) ≡ false
none_append [] ys first second = second
none_append (x ∷ xs) ys first second =
    let both = neither (moves_stack x.target) (any_moves xs) first in
    ap (λ b. b || any_moves (xs ++ ys)) both.0 ∙ none_append xs ys both.1 second

temporaries : (row : List MicroOp) → any_moves (map as_temporary row) ≡ false
temporaries [] = refl
temporaries (op ∷ ops) = temporaries ops

guard : (n k : ℕ) (target : Target) (rest : List MicroOp) → any_moves rest ≡ false
    → any_moves (guarded_op n k target rest) ≡ false
guard n k (Target.Site site) rest none = none
guard n k target rest none = none

guards : (n k : ℕ) (row : List MicroOp) → any_moves (guarded n k row) ≡ false
guards n k [] = refl
guards n k (op ∷ ops) = guard n k op.target (guarded n (k + 1) ops) (guards n (k + 1) ops)

alone : (op : MicroOp) → moves_stack op.target ≡ false → any_moves (op ∷ []) ≡ false
alone op none = ap (λ b. b || false) none

around : (t g : List MicroOp) (a b c d : MicroOp) → any_moves t ≡ false → any_moves g ≡ false → moves_stack a.target
    ≡ false → moves_stack b.target ≡ false
    → moves_stack c.target ≡ false → moves_stack d.target ≡ false
    → any_moves (t ++ a ∷ [] ++ b ∷ [] ++ g ++ c ∷ [] ++ d ∷ []) ≡ false
around t g a b c d in_t in_g of_a of_b of_c of_d =
    none_append (t ++ a ∷ [] ++ b ∷ [] ++ g ++ c ∷ []) (d ∷ [])
    (none_append (t ++ a ∷ [] ++ b ∷ [] ++ g) (c ∷ [])
    (none_append (t ++ a ∷ [] ++ b ∷ []) g
    (none_append (t ++ a ∷ []) (b ∷ []) (none_append t (a ∷ []) in_t (alone a of_a)) (alone b of_b))
    in_g)
    (alone c of_c))
    (alone d of_d)

in_turn : (compared : Input) (stay : MicroOp) (row : List MicroOp) → moves_stack stay.target ≡ false
    → any_moves (turn_of compared stay row) ≡ false
in_turn compared stay row none =
    let number = Input.Earlier (length row) in
    around (map as_temporary row) (guarded (length row) 0 row)
    (op2 Target.Turn Function.Value (reg Reg.Ecx Bytes.All) compared)
    (op1 Target.Temporary Function.CountDown (reg Reg.Ecx Bytes.All))
    (op3 (to_reg Reg.Ecx Bytes.All) Function.Pick number (Input.Earlier (length row + 1))
    (Input.Kept (Site.Register Reg.Ecx Bytes.All))) stay
    (temporaries row) (guards (length row) 0 row) refl refl refl none

in_repeated : (r : Repeat) (row : List MicroOp) → any_moves row ≡ false → any_moves (repeated r row) ≡ false
in_repeated Repeat.No row none = none
in_repeated Repeat.Rep row none = in_turn _ _ row refl
in_repeated Repeat.Repe row none = in_turn _ _ row refl
in_repeated Repeat.Repne row none = in_turn _ _ row refl

in_no_shift : (n : ℕ) → any_moves (no_shift_row n) ≡ false
in_no_shift zero = refl
in_no_shift (suc zero) = refl
in_no_shift (suc (suc zero)) = refl
in_no_shift (suc (suc (suc n))) = refl

in_self : (op : Op) (row : List MicroOp) → any_moves row ≡ false → any_moves (self_row op row) ≡ false
in_self Op.Xor row none = refl
in_self Op.Sub row none = refl
in_self Op.Sbb row none = refl
in_self op row none = none

in_entry : (s : Sym) (zero_count same : Bool) (row : List MicroOp) → any_moves row ≡ false
    → any_moves (if zero_count then no_shift_row (length s.args) else if same then self_row s.op row else row) ≡ false
in_entry s true same row none = in_no_shift (length s.args)
in_entry s false true row none = in_self s.op row none
in_entry s false false row none = none

-- ---- lines

module _ (line : Sym) (row : List MicroOp) (is_row : row ≡ row_of line.op line.width (length line.args)) (b : Bool)
    (tested : b ≡ any_moves row) (none : b ≡ false) where
  in_line : any_moves (entry_row line) ≡ false
  in_line =
      in_entry line (is_shift line.op && is_zero_count (slice_get line.args 0))
      (same_register (slice_get line.args 0) (slice_get line.args 1))
      (line_row line) (in_repeated line.repeat _ (ap any_moves (sym is_row) ∙ sym tested ∙ none))

  pub none_moved : record { pushes = false; pops = false } ≡ effect_of line
  none_moved =
      let push : pushes line ≡ false = none_written is_push (λ arg. refl) (λ f. refl) line (entry_row line) in_line in
      let pop : pops line ≡ false = none_written is_pop (λ arg. refl) (λ f. refl) line (entry_row line) in_line in
      sym (ap (λ p. record { pushes = p; pops = pops line }) push ∙ ap (λ p. record { pushes = false; pops = p }) pop)

pub effect_is : (line : Sym) (e : LineEntries) (writes : List Write) (p q : Bool) → AreLineEntries line e → writes
    ≡ e.writes
    → p ≡ list_any (λ (w : Write). is_push w.to) writes → q ≡ list_any (λ (w : Write). is_pop w.to) writes
    → record { pushes = p; pops = q } ≡ effect_of line
effect_is line e writes p q are same push pop =
    let all = same ∙ are.are.writes in
    ap (λ b. record { pushes = b; pops = q }) (push ∙ ap (list_any (λ (w : Write). is_push w.to)) all)
    ∙ ap (λ b. record { pushes = pushes line; pops = b }) (pop ∙ ap (list_any (λ (w : Write). is_pop w.to)) all)
