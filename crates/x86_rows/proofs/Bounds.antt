-- How many writes a line has, and of how many bytes.
use Rattle.std.proofs.Common.{◌≡◌, ℕ, zero, suc, ◌+◌, ◌/◌, ◌≤◌, List, [], ◌∷◌, ◌++◌, map, length, All, Bool, true, false, if◌then◌else◌, ◌&&◌, Option, None, Some, Result, Ok, Err, IfOk, slice_get, refl, ap, sym, subst, ◌∙◌, arith, length-append}
use Rattle.std.proofs.lemmas.List.Elements.{All-nil, All-cons, filter_map-append}
use Rattle.asm_core.specs.Function.{bits_of}
use Rattle.asm_core.specs.MicroOps.{count_of, first_of, sized}
use Rattle.asm_core.specs.RowTerms.{op1, op2, op3, reg, to_reg, as_temporary, guarded_op, guarded, turn_of, repeated}
use Rattle.asm_core.specs.Table.{is_shift, self_row}
use Rattle.asm_core.specs.Table.Bits.{no_shift_row}
use Rattle.asm_core.specs.Rows.{is_zero_count, same_register, entry_of}
use Rattle.asm_core.specs.Entries.{first_in_name, copied, set_to, by_of, write_to, write_of, writes_of}
use Rattle.asm_core.specs.declared.reg.Reg.{Reg}
use Rattle.asm_core.specs.declared.sym.Sym.{Sym}
use Rattle.asm_core.specs.declared.inst.Op.{Op}
use Rattle.asm_core.specs.declared.inst.Width.{Width}
use Rattle.asm_core.specs.declared.inst.Repeat.{Repeat}
use Rattle.asm_core.specs.declared.row.Write.{Write}
use Rattle.asm_core.specs.declared.row.By.{By}
use Rattle.asm_core.specs.declared.micro_op.Bytes.{Bytes}
use Rattle.asm_core.specs.declared.micro_op.Site.{Site}
use Rattle.asm_core.specs.declared.micro_op.Input.{Input}
use Rattle.asm_core.specs.declared.micro_op.Target.{Target}
use Rattle.asm_core.specs.declared.micro_op.Function.{Function}
use Rattle.asm_core.specs.declared.micro_op.MicroOp.{MicroOp}
use Rattle.x86_rows.specs.Entered.{AreEntries, IsNarrow, IsNarrowBy}
use Rattle.x86_rows.specs.declared.line_entries.LineEntries.{LineEntries}
use Rattle.asm_core.specs.declared.memory.Memory.{Memory}

-- ---- bytes

low_first : (bytes : Bytes) → first_of bytes ≤ 3
low_first Bytes.Byte1 = omega arith
low_first Bytes.Byte2 = omega arith
low_first Bytes.Byte3 = omega arith
low_first Bytes.High16 = omega arith
low_first Bytes.Upper24 = omega arith
low_first bytes = omega arith

low_first_in_name : (bytes : Bytes) → first_in_name bytes ≤ 3
low_first_in_name Bytes.Byte1 = omega arith
low_first_in_name Bytes.Byte2 = omega arith
low_first_in_name Bytes.Byte3 = omega arith
low_first_in_name Bytes.High16 = omega arith
low_first_in_name Bytes.Upper24 = omega arith
low_first_in_name bytes = omega arith

few_of_width : (w : Width) → bits_of w / 8 ≤ 8
few_of_width Width.B = omega arith
few_of_width Width.W = omega arith
few_of_width Width.L = omega arith
few_of_width Width.Q = omega arith

few_bytes : (w : Width) (bytes : Bytes) → count_of w bytes ≤ 8
few_bytes w Bytes.Whole = few_of_width w
few_bytes w Bytes.Low16 = omega arith
few_bytes w Bytes.High16 = omega arith
few_bytes w Bytes.Upper24 = omega arith
few_bytes w Bytes.All = omega arith
few_bytes w bytes = omega arith

narrow_copy : (s : Sym) (x : Input) → IsNarrowBy (copied s x)
narrow_copy s (Input.Read (Site.Argument k bytes)) = low_first bytes
narrow_copy s (Input.Read (Site.Register r bytes)) = low_first_in_name bytes
narrow_copy s (Input.Read (Site.Pointed r)) = omega arith
narrow_copy s Input.Top = omega arith
narrow_copy s x = tt

narrow_set : (x : Input) → IsNarrowBy (set_to x)
narrow_set (Input.Number n) = tt
narrow_set x = tt

narrow_by : (s : Sym) (f : Function) (x : Input) → IsNarrowBy (by_of s f x)
narrow_by s Function.Copy x = narrow_copy s x
narrow_by s Function.Set x = narrow_set x
narrow_by s f x = tt

abbrev IsNarrowOption : Option Write → Type 0
IsNarrowOption None = Unit {0}
IsNarrowOption (Some w) = IsNarrow w

narrow_to : (s : Sym) (by : By) (t : Target) → IsNarrowBy by → IsNarrowOption (write_to s by t)
narrow_to s by (Target.Site (Site.Argument k bytes)) h = record
    { first = low_first bytes; count = few_bytes s.width bytes; by = h }
narrow_to s by (Target.Site (Site.Register r bytes)) h = record
    { first = low_first_in_name bytes; count = few_bytes s.width (sized s.width bytes); by = h }
narrow_to s by (Target.Site (Site.Pointed r)) h = record { first = omega arith; count = few_of_width s.width; by = h }
narrow_to s by (Target.Site (Site.Flag f)) h = record { first = omega arith; count = omega arith; by = h }
narrow_to s by Target.Push h = record { first = omega arith; count = omega arith; by = h }
narrow_to s by Target.Pop h = record { first = omega arith; count = omega arith; by = h }
narrow_to s by t h = tt

pub narrow : (s : Sym) (row : List MicroOp) → All IsNarrow (writes_of row s)
narrow s [] = All-nil IsNarrow
narrow s (op ∷ ops) = by_write (narrow s ops) (write_of s op) refl
    (narrow_to s (by_of s op.function op.x) op.target (narrow_by s op.function op.x))
  where
    by_write : All IsNarrow (writes_of ops s) → (w : Option Write) → write_of s op ≡ w → IsNarrowOption (write_of s op)
        → All IsNarrow (writes_of (op ∷ ops) s)
    by_write rest None e h = rw e rest
    by_write rest (Some w) e h = rw e (All-cons IsNarrow w (writes_of ops s) (subst IsNarrowOption e h) rest)

-- ---- counts

at_most_all : (s : Sym) (row : List MicroOp) → length (writes_of row s) ≤ length row
at_most_all s [] = omega arith
at_most_all s (op ∷ ops) = by_write (at_most_all s ops) (write_of s op) refl
  where
    by_write : length (writes_of ops s) ≤ length ops → (w : Option Write) → write_of s op ≡ w
        → length (writes_of (op ∷ ops) s) ≤ length (op ∷ ops)
    by_write rest None e = rw e (omega arith)
    by_write rest (Some w) e = rw e (omega arith)

temporaries : (s : Sym) (row : List MicroOp) → length (writes_of (map as_temporary row) s) ≡ 0
temporaries s [] = refl
temporaries s (op ∷ ops) = temporaries s ops

more_writes : (s : Sym) (xs ys : List MicroOp) → length (writes_of (xs ++ ys) s) ≤ length (writes_of xs s) + length ys
more_writes s xs ys =
    let parts = ap length (filter_map-append (write_of s) xs ys) in
    let sum = length-append (writes_of xs s) (writes_of ys s) in
    let most = at_most_all s ys in
    omega arith

few_guarded : (n k : ℕ) (row : List MicroOp) → length (guarded n k row) ≤ length row
few_guarded n k [] = omega arith
few_guarded n k (op ∷ ops) = by_target op.target (few_guarded n (k + 1) ops)
  where
    by_target : (t : Target) → length (guarded n (k + 1) ops) ≤ length ops
        → length (guarded_op n k t (guarded n (k + 1) ops)) ≤ length (op ∷ ops)
    by_target (Target.Site site) h = omega arith
    by_target t h = omega arith

few_around : (s : Sym) (t g : List MicroOp) (a b c d : MicroOp) → length (writes_of t s) ≡ 0 → length g ≤ 18
    → length (writes_of (t ++ a ∷ [] ++ b ∷ [] ++ g ++ c ∷ [] ++ d ∷ []) s) ≤ 22
few_around s t g a b c d none few =
    let first = more_writes s t (a ∷ []) in
    let second = more_writes s (t ++ a ∷ []) (b ∷ []) in
    let guards = more_writes s (t ++ a ∷ [] ++ b ∷ []) g in
    let counter = more_writes s (t ++ a ∷ [] ++ b ∷ [] ++ g) (c ∷ []) in
    let last = more_writes s (t ++ a ∷ [] ++ b ∷ [] ++ g ++ c ∷ []) (d ∷ []) in
    omega arith

few_in_turn : (s : Sym) (compared : Input) (stay : MicroOp) (row : List MicroOp) → length row ≤ 18
    → length (writes_of (turn_of compared stay row) s) ≤ 22
few_in_turn s compared stay row few =
    let shorter = few_guarded (length row) 0 row in
    let number = Input.Earlier (length row) in
    few_around s (map as_temporary row) (guarded (length row) 0 row)
    (op2 Target.Turn Function.Value (reg Reg.Ecx Bytes.All) compared)
    (op1 Target.Temporary Function.CountDown (reg Reg.Ecx Bytes.All))
    (op3 (to_reg Reg.Ecx Bytes.All) Function.Pick number (Input.Earlier (length row + 1))
    (Input.Kept (Site.Register Reg.Ecx Bytes.All))) stay (temporaries s row) (omega arith)

few_repeated : (s : Sym) (r : Repeat) (row : List MicroOp) → length row ≤ 18
    → length (writes_of (repeated r row) s) ≤ 22
few_repeated s Repeat.No row few = let most = at_most_all s row in omega arith
few_repeated s Repeat.Rep row few = few_in_turn s _ _ row few
few_repeated s Repeat.Repe row few = few_in_turn s _ _ row few
few_repeated s Repeat.Repne row few = few_in_turn s _ _ row few

few_of_self : (s : Sym) (op : Op) (row : List MicroOp) → length (writes_of row s) ≤ 22
    → length (writes_of (self_row op row) s) ≤ 22
few_of_self s Op.Xor row few = let most = at_most_all s (self_row Op.Xor row) in omega arith
few_of_self s Op.Sub row few = let most = at_most_all s (self_row Op.Sub row) in omega arith
few_of_self s Op.Sbb row few = let most = at_most_all s (self_row Op.Sbb row) in omega arith
few_of_self s op row few = few

few_of_no_shift : (s : Sym) (n : ℕ) → length (writes_of (no_shift_row n) s) ≤ 22
few_of_no_shift s zero = omega arith
few_of_no_shift s (suc zero) = omega arith
few_of_no_shift s (suc (suc zero)) = omega arith
few_of_no_shift s (suc (suc (suc n))) = omega arith

few_of_entry : (s : Sym) (zero_count same : Bool) (row : List MicroOp) → length (writes_of row s) ≤ 22
    → length (writes_of (if zero_count then no_shift_row (length s.args) else if same then self_row s.op row else row)
    s) ≤ 22
few_of_entry s true same row few = few_of_no_shift s (length s.args)
few_of_entry s false true row few = few_of_self s s.op row few
few_of_entry s false false row few = few

few_writes : (s : Sym) (table : List MicroOp) → length table ≤ 18
    → length (writes_of (entry_of s (repeated s.repeat table)) s) ≤ 22
few_writes s table few =
    few_of_entry s (is_shift s.op && is_zero_count (slice_get s.args 0))
    (same_register (slice_get s.args 0) (slice_get s.args 1)) (repeated s.repeat table)
    (few_repeated s s.repeat table few)

pub few_entries : (s : Sym) (table row : List MicroOp) (r : Result LineEntries Memory) → length table ≤ 18
    → row ≡ entry_of s (repeated s.repeat table) → IfOk r (AreEntries row s)
    → IfOk r (λ (e : LineEntries). length e.writes ≤ 22)
few_entries s table row (Ok e) few is h = subst (λ (ws : List Write). length ws ≤ 22)
    (sym (h.writes ∙ ap (λ row. writes_of row s) is)) (few_writes s table few)
few_entries s table row (Err x) few is h = tt

pub narrow_entries : (s : Sym) (row : List MicroOp) (r : Result LineEntries Memory) → IfOk r (AreEntries row s)
    → IfOk r (λ (e : LineEntries). All IsNarrow e.writes)
narrow_entries s row (Ok e) h = subst (λ (ws : List Write). All IsNarrow ws) (sym h.writes) (narrow s row)
narrow_entries s row (Err x) h = tt
