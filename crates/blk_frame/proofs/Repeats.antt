-- A repeated instruction only computes, and writes only registers that are named by themselves and flags.
use Rattle.std.specs.Prelude.{pos}
use Rattle.std.proofs.Common.{◌≡◌, ℕ, zero, suc, ◌+◌, ◌<◌, ◌&&◌, nat_lt, List, [], ◌∷◌, ◌++◌, length, map, Bool, true, false, Option, None, Some, slice_get, if◌then◌else◌, refl, sym, ap, subst, ◌∙◌, arith}
use Rattle.std.specs.List.{cons_option, flat_map, range_with_len}
use Rattle.std.proofs.lemmas.Bool.{ltb-true, and_parts}
use Rattle.asm_core.specs.Entries.{write_to, write_of, writes_of, by_of, line_arg}
use Rattle.asm_core.specs.Reg.{reg_number}
use Rattle.asm_core.specs.Rows.{is_zero_count, same_register, line_row, entry_row}
use Rattle.asm_core.specs.Table.{row_of, is_shift, self_row}
use Rattle.asm_core.specs.Table.Bits.{no_shift_row}
use Rattle.std.proofs.Math.Bool.{and-false}
use Rattle.asm_core.specs.RowTerms.{op1, op2, op3, reg, to_reg, as_temporary, guarded_op, guarded, turn_of, repeated}
use Rattle.asm_core.specs.declared.inst.Repeat.{Repeat}
use Rattle.asm_core.specs.declared.sym.Place.{Place}
use Rattle.asm_core.specs.declared.sym.Arg.{Arg}
use Rattle.asm_core.specs.declared.sym.Sym.{Sym}
use Rattle.asm_core.specs.declared.flag.Flag.{Flag}
use Rattle.asm_core.specs.declared.reg.Reg.{Reg}
use Rattle.asm_core.specs.declared.row.By.{By}
use Rattle.asm_core.specs.declared.row.Written.{Written}
use Rattle.asm_core.specs.declared.row.Write.{Write}
use Rattle.asm_core.specs.declared.shape.Shape.{Shape}
use Rattle.asm_core.specs.declared.interface.Interface.{Interface}
use Rattle.asm_core.specs.declared.micro_op.Bytes.{Bytes}
use Rattle.asm_core.specs.declared.micro_op.Function.{Function}
use Rattle.asm_core.specs.declared.micro_op.Site.{Site}
use Rattle.asm_core.specs.declared.micro_op.Input.{Input}
use Rattle.asm_core.specs.declared.micro_op.Target.{Target}
use Rattle.asm_core.specs.declared.micro_op.MicroOp.{MicroOp}
use Rattle.asm_core.proofs.MachineLaws.{reg_number_small}
use Rattle.blk_deps.specs.Cells.{byte_cell, place_of, slice_first}
use Rattle.blk_deps.specs.Operands.{is_place}
use Rattle.blk_deps.specs.Line.{writes_in, reads_from, read_for, line_reads, line_puts, puts_from, puts_to, put_byte, put_word, put_store, put_flag}
use Rattle.blk_deps.specs.declared.step.Read.{Read}
use Rattle.blk_deps.specs.declared.step.Put.{Put}
use Rattle.blk_frame.proofs.Basics.{same_some}
use Rattle.blk_frame.proofs.ByteWrites.{cell_place}
use Rattle.blk_frame.proofs.Turns.{IsApart, IsApartFrom, AreApart}

-- ---- the writes

abbrev IsBare : Written → Type 0
IsBare (Written.Arg (Arg.Register (Place.Operand k) slice)) = ⊥
IsBare to = Unit {0}

-- the write is of a computed value, and to no operand
abbrev IsOfTurn : Write → Type 0
IsOfTurn w = (w.by ≡ By.Named) × IsBare w.to

abbrev AreOfTurn : List Write → Type 0
AreOfTurn [] = Unit {0}
AreOfTurn (w ∷ ws) = IsOfTurn w × AreOfTurn ws

module _ (line : Sym) (bare : line.args ≡ []) where
  abbrev IsTurnOp : MicroOp → Type 0
  IsTurnOp op = (w : Write) → write_of line op ≡ Some w → IsOfTurn w

  abbrev AreTurnOps : List MicroOp → Type 0
  AreTurnOps [] = Unit {0}
  AreTurnOps (op ∷ ops) = IsTurnOp op × AreTurnOps ops

  ops_append : (xs ys : List MicroOp) → AreTurnOps xs → AreTurnOps ys → AreTurnOps (xs ++ ys)
  ops_append [] ys first second = second
  ops_append (op ∷ ops) ys first second = (first.0, ops_append ops ys first.1 second)

  no_arg : (k : ℕ) → IsBare (Written.Arg (line_arg line k))
  no_arg k = subst (λ args. IsBare (Written.Arg
      (elim (slice_get args k) [ None ↦ Arg.Number (pos 0) | Some arg ↦ arg ]))) (sym bare) tt

  -- what is picked is computed
  picked : (site : Site) (x y z : Input) → IsTurnOp (op3 (Target.Site site) Function.Pick x y z)
  picked (Site.Argument k bytes) x y z w is = subst IsOfTurn (same_some _ w is) (refl, no_arg k)
  picked (Site.Register r bytes) x y z w is = subst IsOfTurn (same_some _ w is) (refl, tt)
  picked (Site.Pointed r) x y z w is = subst IsOfTurn (same_some _ w is) (refl, tt)
  picked (Site.Flag f) x y z w is = subst IsOfTurn (same_some _ w is) (refl, tt)

  temporaries : (row : List MicroOp) → AreTurnOps (map as_temporary row)
  temporaries [] = tt
  temporaries (op ∷ ops) = ((λ w is. cc), temporaries ops)

  guard : (n k : ℕ) (target : Target) (rest : List MicroOp) → AreTurnOps rest → AreTurnOps (guarded_op n k target rest)
  guard n k (Target.Site site) rest are = (picked site (Input.Earlier n) (Input.Earlier k) (Input.Kept site), are)
  guard n k target rest are = are

  guards : (n k : ℕ) (row : List MicroOp) → AreTurnOps (guarded n k row)
  guards n k [] = tt
  guards n k (op ∷ ops) = guard n k op.target (guarded n (k + 1) ops) (guards n (k + 1) ops)

  around : (t g : List MicroOp) (a b c d : MicroOp) → AreTurnOps t → AreTurnOps g → IsTurnOp a → IsTurnOp b
      → IsTurnOp c → IsTurnOp d
      → AreTurnOps (t ++ a ∷ [] ++ b ∷ [] ++ g ++ c ∷ [] ++ d ∷ [])
  around t g a b c d in_t in_g of_a of_b of_c of_d =
      ops_append (t ++ a ∷ [] ++ b ∷ [] ++ g ++ c ∷ []) (d ∷ [])
      (ops_append (t ++ a ∷ [] ++ b ∷ [] ++ g) (c ∷ [])
      (ops_append (t ++ a ∷ [] ++ b ∷ []) g
      (ops_append (t ++ a ∷ []) (b ∷ []) (ops_append t (a ∷ []) in_t (of_a, tt)) (of_b, tt)) in_g)
      (of_c, tt))
      (of_d, tt)

  in_turn : (compared : Input) (stay : MicroOp) (row : List MicroOp) → stay.target ≡ Target.Stay
      → AreTurnOps (turn_of compared stay row)
  in_turn compared stay row is =
      around (map as_temporary row) (guarded (length row) 0 row)
      (op2 Target.Turn Function.Value (reg Reg.Ecx Bytes.All) compared)
      (op1 Target.Temporary Function.CountDown (reg Reg.Ecx Bytes.All))
      (op3 (to_reg Reg.Ecx Bytes.All) Function.Pick (Input.Earlier (length row)) (Input.Earlier (length row + 1))
      (Input.Kept (Site.Register Reg.Ecx Bytes.All))) stay
      (temporaries row) (guards (length row) 0 row) (λ w e. cc) (λ w e. cc)
      (picked (Site.Register Reg.Ecx Bytes.All) (Input.Earlier (length row)) (Input.Earlier (length row + 1))
      (Input.Kept (Site.Register Reg.Ecx Bytes.All)))
      (λ w e. unwritten w (ap (λ t. write_to line (by_of line stay.function stay.x) t) (sym is) ∙ e))
    where
      unwritten : (w : Write) → None ≡ Some w → IsOfTurn w
      unwritten w e = cc

  in_repeated : (r : Repeat) (row : List MicroOp) → (r ≡ Repeat.No → ⊥) → AreTurnOps (repeated r row)
  in_repeated Repeat.No row more = absurd (more refl)
  in_repeated Repeat.Rep row more = in_turn _ _ row refl
  in_repeated Repeat.Repe row more = in_turn _ _ row refl
  in_repeated Repeat.Repne row more = in_turn _ _ row refl

  writes_of_ops : (ops : List MicroOp) → AreTurnOps ops → AreOfTurn (writes_of ops line)
  writes_of_ops [] are = tt
  writes_of_ops (op ∷ ops) are = by_write (write_of line op) refl are.0 (writes_of_ops ops are.1)
    where
      by_write : (o : Option Write) → write_of line op ≡ o → IsTurnOp op → AreOfTurn (writes_of ops line)
          → AreOfTurn (cons_option o (writes_of ops line))
      by_write None e is rest = rest
      by_write (Some w) e is rest = (is w e, rest)

  abbrev row_by : Bool → Bool → List MicroOp
  row_by shift self = if shift then no_shift_row (length line.args) else if self then self_row line.op
      (line_row line) else line_row line

  -- a line without operands has the row of its steps
  own_row : entry_row line ≡ line_row line
  own_row =
      ap (λ b. row_by (is_shift line.op && b) (same_register (slice_get line.args 0) (slice_get line.args 1)))
      (ap (λ l. is_zero_count (slice_get l 0)) bare)
      ∙ ap (λ b. row_by b (same_register (slice_get line.args 0) (slice_get line.args 1)))
      (and-false (is_shift line.op))
      ∙ ap (row_by false) (ap (λ l. same_register (slice_get l 0) (slice_get l 1)) bare)

  pub turn_writes : (line.repeat ≡ Repeat.No → ⊥) → AreOfTurn (writes_in line)
  turn_writes more = subst (λ row. AreOfTurn (writes_of row line)) (sym own_row)
      (writes_of_ops (line_row line) (in_repeated line.repeat (row_of line.op line.width (length line.args)) more))

-- ---- the reads

abbrev IsComputed : Read → Type 0
IsComputed (Read.Copy u) = ⊥
IsComputed (Read.Compute of) = Unit {0}

abbrev pub AreComputed : List Read → Type 0
AreComputed [] = Unit {0}
AreComputed (r ∷ rs) = IsComputed r × AreComputed rs

computed_append : (xs ys : List Read) → AreComputed xs → AreComputed ys → AreComputed (xs ++ ys)
computed_append [] ys first second = second
computed_append (r ∷ rs) ys first second = (first.0, computed_append rs ys first.1 second)

pub computed_at : (rs : List Read) → AreComputed rs → (h u : ℕ) → slice_get rs h ≡ Some (Read.Copy u) → ⊥
computed_at [] are h u is = cc
computed_at (r ∷ rs) are zero u is = subst IsComputed (ap (λ o. elim o [ None ↦ r | Some q ↦ q ]) is) are.0
computed_at (r ∷ rs) are (suc h) u is = computed_at rs are.1 h u is

module _ (i : Interface) (s : Shape) (depth : ℕ) (line : Sym) where
  named_computed : (k : ℕ) (by : By) (ns : List ℕ) → by ≡ By.Named → AreComputed (map (read_for i s depth line k by) ns)
  named_computed k by [] is = tt
  named_computed k by (n ∷ ns) is = (
    subst (λ b. IsComputed (read_for i s depth line k b n))
        (sym is) tt,
    named_computed k by ns is,
  )

  reads_computed : (ws : List Write) (k : ℕ) → AreOfTurn ws → AreComputed (reads_from i s depth line k ws)
  reads_computed [] k are = tt
  reads_computed (w ∷ ws) k are = computed_append _ _ (named_computed k w.by (range_with_len 0 w.count) are.0.0)
      (reads_computed ws (k + 1) are.1)

  pub turn_reads : AreOfTurn (writes_in line) → AreComputed (line_reads i s depth line)
  turn_reads are = computed_append (reads_from i s depth line 0 (writes_in line)) _
      (reads_computed (writes_in line) 0 are) (tt, (tt, tt))

  -- ---- the writes are apart

  abbrev IsLow : Put → Type 0
  IsLow (Put.Place u hand) = place_of u < 7
  IsLow put = Unit {0}

  abbrev AreLow : List Put → Type 0
  AreLow [] = Unit {0}
  AreLow (put ∷ puts) = IsLow put × AreLow puts

  low_append : (xs ys : List Put) → AreLow xs → AreLow ys → AreLow (xs ++ ys)
  low_append [] ys first second = second
  low_append (put ∷ puts) ys first second = (first.0, low_append puts ys first.1 second)

  low_flat : (f : ℕ → List Put) (ns : List ℕ) → ((n : ℕ) → AreLow (f n)) → AreLow (flat_map f ns)
  low_flat f [] each = tt
  low_flat f (n ∷ ns) each = low_append (f n) (flat_map f ns) (each n) (low_flat f ns each)

  low_byte : (r : Reg) (n hand : ℕ) (b : Bool) → (nat_lt n 4 && is_place i s (reg_number r)) ≡ b
      → AreLow (if b then Put.Place (byte_cell (reg_number r) n) hand ∷ [] else [])
  low_byte r n hand false e = tt
  low_byte r n hand true e = let lt = ltb-true n 4
      (and_parts _ _ e).0 in let small = reg_number_small r in let at = cell_place (reg_number r) n lt in
      (omega (arith, small, at), tt)

  low_word : (word n hand : ℕ) (b : Bool) → nat_lt n 4 ≡ b → AreLow (put_word word n hand)
  low_word word n hand true e = rw e (tt, tt)
  low_word word n hand false e = rw e tt

  low_store : (k : ℕ) (w : Write) (b : Bool) → is_place i s (7 + k) ≡ b → AreLow (put_store i s k w)
  low_store k w true e = rw e (tt, tt)
  low_store k w false e = rw e tt

  low_flag : (f : Flag) (hand : ℕ) (by : By) → AreLow (put_flag f hand by)
  low_flag Flag.Df hand (By.Set on) = (tt, tt)
  low_flag Flag.Df hand (By.Copy source first) = tt
  low_flag Flag.Df hand By.Named = tt
  low_flag f hand by = (tt, tt)

  low_write : (hand : ℕ) (w : Write) (to : Written) → IsBare to → AreLow (puts_to i s depth hand w to)
  low_write hand w (Written.Arg (Arg.Register (Place.Reg r) slice)) bare = low_flat
      (λ n. put_byte i s (Place.Reg r) (slice_first slice + w.first + n) (hand + n)) (range_with_len 0 w.count)
      (λ n. low_byte r (slice_first slice + w.first + n) (hand + n) _ refl)
  low_write hand w (Written.Arg (Arg.Register (Place.Operand k) slice)) bare = absurd bare
  low_write hand w (Written.Arg (Arg.Memory k)) bare = low_store k w _ refl
  low_write hand w (Written.Arg (Arg.Number n)) bare = tt
  low_write hand w (Written.Arg (Arg.Hole n)) bare = tt
  low_write hand w (Written.Arg (Arg.Address d b n)) bare = tt
  low_write hand w (Written.Arg (Arg.Label n)) bare = tt
  low_write hand w (Written.Flag f) bare = low_flag f hand w.by
  low_write hand w Written.Push bare = low_flat (λ n. put_word depth n (hand + n)) (range_with_len 0 w.count)
      (λ n. low_word depth n (hand + n) _ refl)
  low_write hand w Written.Pop bare = tt

  low_writes : (ws : List Write) (hand : ℕ) → AreOfTurn ws → AreLow (puts_from i s depth hand ws)
  low_writes [] hand are = tt
  low_writes (w ∷ ws) hand are = low_append (puts_to i s depth hand w w.to) (puts_from i s depth (hand + w.count) ws)
      (low_write hand w w.to are.0.1) (low_writes ws (hand + w.count) are.1)

  module _ (shares : ℕ → ℕ → Bool) (alone : (p q : ℕ) → p < 7 → q < 7 → shares p q ≡ true → p ≡ q) where
    low_apart : (put other : Put) → IsLow put → IsLow other → IsApart shares put other
    low_apart (Put.Place u hand) (Put.Place v second) low high = λ same told. let place = alone (place_of u)
        (place_of v) low high told in omega (arith, same, place)
    low_apart (Put.Place u hand) (Put.Plain v second) low high = tt
    low_apart (Put.Place u hand) (Put.Store k first count) low high = tt
    low_apart (Put.Place u hand) (Put.Direction on) low high = tt
    low_apart (Put.Plain u hand) other low high = tt
    low_apart (Put.Store k first count) other low high = tt
    low_apart (Put.Direction on) other low high = tt

    apart_from : (put : Put) (puts : List Put) → IsLow put → AreLow puts → IsApartFrom shares put puts
    apart_from put [] low are = tt
    apart_from put (other ∷ others) low are = (low_apart put other low are.0, apart_from put others low are.1)

    all_apart : (puts : List Put) → AreLow puts → AreApart shares puts
    all_apart [] are = tt
    all_apart (put ∷ puts) are = (apart_from put puts are.0 are.1, all_apart puts are.1)

    pub turn_apart : AreOfTurn (writes_in line) → AreApart shares (line_puts i s depth line)
    turn_apart are = all_apart (line_puts i s depth line) (low_writes (writes_in line) 0 are)
