-- A copy leaves the bytes of its source as they were before the step, and what is set is left so.
use Rattle.std.proofs.Common.{◌≡◌, ℕ, zero, suc, ◌+◌, ◌-◌, ◌*◌, ◌/◌, ◌%◌, ◌^◌, ◌==◌, ◌<◌, ◌≤◌, not, List, [], ◌∷◌, ◌++◌, length, slice_get, slice_index, Bool, true, false, if◌then◌else◌, Option, None, Some, refl, ap, sym, subst, ◌∙◌, arith}
use Rattle.std.specs.List.{list_all}
use Rattle.std.proofs.lemmas.List.{length-append}
use Rattle.asm_core.specs.Function.{bits_of, bit, value_of}
use Rattle.asm_core.specs.Machine.{IsMachine, reg_in, byte_at}
use Rattle.asm_core.specs.Memory.{modulo, address_of}
use Rattle.asm_core.specs.MicroOps.{Stepped, first_of, count_of, sized, bytes_named, within, arg_at, read_arg, read_site, read_in, input_of, op_value, values_from, values_of, is_good_arg, is_good_site, is_good_input, is_good_op, is_over, divides, takes_outside, next_of, moved, written, ended_by, row_ended}
use Rattle.asm_core.specs.Reading.Placed.{operand_under, operand_at, inst_under}
use Rattle.asm_core.specs.Entries.{slice_with, arg_or_zero, line_arg, first_in_name, copied, by_of, write_to_site, write_to, write_of}
use Rattle.asm_core.specs.RowLaws.{HoldsAfter, byte_of, nth_byte, FitsOperand, FitsSite, FitsTargets, held, operand_value, byte_by, byte_count, target_count, FitsInput, FitsCopies, LeavesValues, LeavesCopies}
use Rattle.asm_core.proofs.BytesRead.{part_byte, number_byte, word_byte, scratch_byte}
use Rattle.asm_core.proofs.ValuesLeft.{good_at, good_input, values_left}
use Rattle.asm_core.proofs.WriteLaws.{within_first, within_count, sized_first, sized_count}
use Rattle.asm_core.specs.declared.inst.Width.{Width}
use Rattle.asm_core.specs.declared.inst.Inst.{Inst}
use Rattle.asm_core.specs.declared.inst.InstArg.{InstArg}
use Rattle.asm_core.specs.declared.sym.Arg.{Arg}
use Rattle.asm_core.specs.declared.sym.Sym.{Sym}
use Rattle.asm_core.specs.declared.placement.Placement.{Placement}
use Rattle.asm_core.specs.declared.micro_op.Bytes.{Bytes}
use Rattle.asm_core.specs.declared.micro_op.Site.{Site}
use Rattle.asm_core.specs.declared.micro_op.Input.{Input}
use Rattle.asm_core.specs.declared.micro_op.Target.{Target}
use Rattle.asm_core.specs.declared.micro_op.Function.{Function}
use Rattle.asm_core.specs.declared.micro_op.MicroOp.{MicroOp}
use Rattle.asm_core.specs.declared.row.Written.{Written}
use Rattle.asm_core.specs.declared.row.Write.{Write}
use Rattle.asm_core.specs.declared.machine.Fault.{Fault}
use Rattle.asm_core.specs.declared.machine.Machine.{Machine}

-- ---- the value of a micro-operation

module _ (w : Width) (env : Input → ℕ) where
  earlier_kept : (row : List MicroOp) (vs : List ℕ) (k : ℕ) → k < length vs → slice_index (values_from w env row vs) k ≡ slice_index vs k
  earlier_kept [] vs k within = refl
  earlier_kept (op ∷ row) vs k within =
      earlier_kept row (vs ++ op_value w env vs op ∷ []) k (longer (length-append vs (op_value w env vs op ∷ []))) ∙ first_part vs (op_value w env vs op) k within
    where
      longer : length (vs ++ op_value w env vs op ∷ []) ≡ length vs + 1 → k < length (vs ++ op_value w env vs op ∷ [])
      longer e = omega arith

      first_part : (us : List ℕ) (v k : ℕ) → k < length us → slice_index (us ++ v ∷ []) k ≡ slice_index us k
      first_part [] v k within = absurd (omega arith)
      first_part (u ∷ us) v zero within = refl
      first_part (u ∷ us) v (suc k) within = first_part us v k (omega arith)

  last_item : (us : List ℕ) (v : ℕ) → slice_index (us ++ v ∷ []) (length us) ≡ v
  last_item [] v = refl
  last_item (u ∷ us) v = last_item us v

  value_from : (row : List MicroOp) (vs : List ℕ) (k : ℕ) (op : MicroOp) → slice_get row k ≡ Some op → (us : List ℕ) × (slice_index (values_from w env row vs) (length vs + k) ≡ op_value w env us op)
  value_from [] vs k op at = cc
  value_from (first ∷ row) vs zero op at =
      let same : first ≡ op = cc in (
        vs,
        ap (slice_index (values_from w env row (vs ++ op_value w env vs first ∷ []))) (no_more (length vs))
            ∙ earlier_kept row (vs ++ op_value w env vs first ∷ []) (length vs) (longer (length-append vs (op_value w env vs first ∷ [])))
            ∙ last_item vs (op_value w env vs first) ∙ ap (op_value w env vs) same,
      )
    where
      no_more : (n : ℕ) → n + 0 ≡ n
      no_more n = omega arith

      longer : length (vs ++ op_value w env vs first ∷ []) ≡ length vs + 1 → length vs < length (vs ++ op_value w env vs first ∷ [])
      longer e = omega arith
  value_from (first ∷ row) vs (suc k) op at =
      let rest = value_from row (vs ++ op_value w env vs first ∷ []) k op at in
      (rest.0, ap (slice_index (values_from w env row (vs ++ op_value w env vs first ∷ []))) (next (length-append vs (op_value w env vs first ∷ []))) ∙ rest.1)
    where
      next : length (vs ++ op_value w env vs first ∷ []) ≡ length vs + 1 → length vs + suc k ≡ length (vs ++ op_value w env vs first ∷ []) + k
      next e = omega arith

  -- the k-th value is that of the k-th micro-operation, given some earlier values
  pub value_is : (row : List MicroOp) (k : ℕ) (op : MicroOp) → slice_get row k ≡ Some op → (us : List ℕ) × (slice_index (values_of w env row) k ≡ op_value w env us op)
  value_is row k op at = let found = value_from row [] k op at in (found.0, ap (slice_index (values_of w env row)) none ∙ found.1)
    where
      none : k ≡ 0 + k
      none = omega arith

-- ---- a source's bytes

module _ (p : Placement) (s : Sym) (m : Machine) (is_machine : IsMachine m) where
  operand_read : (o : ℕ) (bytes : Bytes) (x : Option InstArg) → FitsOperand s.width bytes x → o < count_of s.width bytes → is_good_arg s.width bytes false x m ≡ true → nth_byte o (read_arg s.width bytes x m) ≡ operand_value x (first_of bytes + o) m
  operand_read o bytes (Some (InstArg.Register r slice)) fits small good =
      let many = within_count s.width slice bytes fits in
      part_byte (within slice bytes) o (reg_in r m) (omega arith) ∙ ap (λ n. byte_of n (reg_in r m)) (grouped (within_first s.width slice bytes fits))
    where
      grouped : first_of (within slice bytes) ≡ first_of (bytes_named slice) + first_of bytes → first_of (within slice bytes) + o ≡ first_of (bytes_named slice) + (first_of bytes + o)
      grouped e = omega arith
  operand_read o bytes (Some (InstArg.Number n)) fits small good = number_byte s.width bytes o n small ∙ ap (λ x. nth_byte x (modulo n 64)) lowest
    where
      lowest : o ≡ first_of bytes + o
      lowest = omega arith
  operand_read o bytes (Some (InstArg.Address form k)) fits small good =
      word_byte (count_of s.width bytes) o (address_of form m + first_of bytes) m.ranges is_machine.ranges small ∙ ap (λ x. byte_at m.ranges (x % 2 ^ 32)) grouped
    where
      grouped : address_of form m + first_of bytes + o ≡ address_of form m + (first_of bytes + o)
      grouped = omega arith
  operand_read o bytes (Some (InstArg.Label n)) fits small good = cc
  operand_read o bytes None fits small good = cc

  placed_read : (o : ℕ) (bytes : Bytes) (x : Option Arg) → FitsOperand s.width bytes (operand_at p x) → o < count_of s.width bytes → is_good_arg s.width bytes false (operand_at p x) m ≡ true
      → nth_byte o (read_arg s.width bytes (operand_at p x) m) ≡ operand_value (operand_under p (arg_or_zero x)) (first_of bytes + o) m
  placed_read o bytes None fits small good = cc
  placed_read o bytes (Some arg) fits small good = operand_read o bytes (operand_under p arg) fits small good

  argument_read : (o k : ℕ) (bytes : Bytes) → FitsOperand s.width bytes (operand_at p (slice_get s.args k)) → o < count_of s.width bytes → is_good_arg s.width bytes false (arg_at (inst_under p s) k) m ≡ true
      → nth_byte o (read_arg s.width bytes (arg_at (inst_under p s) k) m) ≡ operand_value (operand_under p (line_arg s k)) (first_of bytes + o) m
  argument_read o zero bytes fits small good = placed_read o bytes (slice_get s.args 0) fits small good
  argument_read o (suc zero) bytes fits small good = placed_read o bytes (slice_get s.args 1) fits small good
  argument_read o (suc (suc zero)) bytes fits small good = placed_read o bytes (slice_get s.args 2) fits small good
  argument_read o (suc (suc (suc k))) bytes fits small good = cc

  -- what a write says of its value's bytes, they are
  by_read : (choice : ℕ) (words us : List ℕ) (op : MicroOp) (count o n : ℕ) → FitsInput p s op.function op.x count → o < count → is_good_input (inst_under p s) m op.x ≡ true → byte_by p m (by_of s op.function op.x) o ≡ Some n
      → nth_byte o (op_value s.width (read_in (inst_under p s) choice words m) us op) ≡ n
  by_read choice words us op count o n fits small good is = by_function op.function op.x fits good is
    where
      given : List ℕ → Input → ℕ
      given us x = input_of (read_in (inst_under p s) choice words m) us x

      by_site : (site : Site) → FitsSite p s site → count ≤ byte_count s.width site → is_good_site (inst_under p s) m false site ≡ true → byte_by p m (copied s (Input.Read site)) o ≡ Some n → nth_byte o (read_site (inst_under p s) m site) ≡ n
      by_site (Site.Argument k bytes) fits many good is =
          let same : operand_value (operand_under p (line_arg s k)) (first_of bytes + o) m ≡ n = cc in
          argument_read o k bytes fits (omega arith) good ∙ same
      by_site (Site.Register r bytes) fits many good is =
          let enough = sized_count s.width bytes in
          let same : byte_of (first_of (bytes_named (slice_with (sized s.width bytes))) + (first_in_name bytes + o)) (reg_in r m) ≡ n = cc in
          part_byte (sized s.width bytes) o (reg_in r m) (omega arith) ∙ ap (λ x. byte_of x (reg_in r m)) (grouped (sized_first s.width bytes)) ∙ same
        where
          grouped : first_of (sized s.width bytes) ≡ first_of (bytes_named (slice_with (sized s.width bytes))) + first_in_name bytes
              → first_of (sized s.width bytes) + o ≡ first_of (bytes_named (slice_with (sized s.width bytes))) + (first_in_name bytes + o)
          grouped e = omega arith
      by_site (Site.Pointed r) fits many good is =
          let same : byte_at m.ranges (((0 % 2 ^ 32 + reg_in r m + 0) % 2 ^ 32 + (0 + o)) % 2 ^ 32) ≡ n = cc in
          word_byte (bits_of s.width / 8) o (reg_in r m) m.ranges is_machine.ranges (omega arith) ∙ ap (byte_at m.ranges) (at_register (reg_in r m) o) ∙ same
        where
          at_register : (a o : ℕ) → (a + o) % 2 ^ 32 ≡ ((0 % 2 ^ 32 + a + 0) % 2 ^ 32 + (0 + o)) % 2 ^ 32
          at_register a o = omega arith
      by_site (Site.Flag f) fits many good is = cc

      by_number : (k : ℕ) → k ≤ 1 → nth_byte o (bit (not (k == 0))) ≡ n → nth_byte o k ≡ n
      by_number zero small same = same
      by_number (suc zero) small same = same
      by_number (suc (suc k)) small same = absurd (omega arith)

      by_function : (f : Function) (x : Input) → FitsInput p s f x count → is_good_input (inst_under p s) m x ≡ true → byte_by p m (by_of s f x) o ≡ Some n → nth_byte o (value_of f s.width (given us x) (given us op.y) (given us op.z)) ≡ n
      by_function Function.Copy (Input.Read site) fits good is = by_site site fits.0 fits.1 good is
      by_function Function.Copy Input.Top fits good is =
          let same : slice_index m.scratch (4 * (m.scratch_top - 1) + (0 + o)) ≡ n = cc in
          scratch_byte m.scratch (m.scratch_top - 1) o is_machine.scratch (omega arith) ∙ ap (λ x. slice_index m.scratch (4 * (m.scratch_top - 1) + x)) none ∙ same
        where
          none : o ≡ 0 + o
          none = omega arith
      by_function Function.Set (Input.Number k) fits good is = let same : nth_byte o (bit (not (k == 0))) ≡ n = cc in by_number k fits same
      by_function f x fits good is = cc

  -- ---- the third law

  input_fits : (row : List MicroOp) (k : ℕ) (op : MicroOp) → FitsCopies p s row → slice_get row k ≡ Some op → FitsInput p s op.function op.x (target_count s.width op.target)
  input_fits [] k op fits at = cc
  input_fits (first ∷ row) zero op fits at = let same : first ≡ op = cc in subst (λ (x : MicroOp). FitsInput p s x.function x.x (target_count s.width x.target)) same fits.0
  input_fits (first ∷ row) (suc k) op fits at = input_fits row k op fits.1 at

  -- how many bytes a write tells, and how its value comes about
  told_count : (op : MicroOp) (w : Write) → write_of s op ≡ Some w → (w.count ≡ target_count s.width op.target) × (w.by ≡ by_of s op.function op.x)
  told_count op w is = by_target op.target is
    where
      by_target : (t : Target) → write_to s (by_of s op.function op.x) t ≡ Some w → (w.count ≡ target_count s.width t) × (w.by ≡ by_of s op.function op.x)
      by_target (Target.Site (Site.Argument k bytes)) is = let same : w ≡ write_to_site s (by_of s op.function op.x) (Site.Argument k bytes) = cc in (ap (λ (x : Write). x.count) same, ap (λ (x : Write). x.by) same)
      by_target (Target.Site (Site.Register r bytes)) is = let same : w ≡ write_to_site s (by_of s op.function op.x) (Site.Register r bytes) = cc in (ap (λ (x : Write). x.count) same, ap (λ (x : Write). x.by) same)
      by_target (Target.Site (Site.Pointed r)) is = let same : w ≡ write_to_site s (by_of s op.function op.x) (Site.Pointed r) = cc in (ap (λ (x : Write). x.count) same, ap (λ (x : Write). x.by) same)
      by_target (Target.Site (Site.Flag f)) is = let same : w ≡ write_to_site s (by_of s op.function op.x) (Site.Flag f) = cc in (ap (λ (x : Write). x.count) same, ap (λ (x : Write). x.by) same)
      by_target Target.Push is = let told : Write = record { to = Written.Push; first = 0; count = 4; by = by_of s op.function op.x } in let same : w ≡ told = cc in (ap (λ (x : Write). x.count) same, ap (λ (x : Write). x.by) same)
      by_target Target.Pop is = let told : Write = record { to = Written.Pop; first = 0; count = 0; by = by_of s op.function op.x } in let same : w ≡ told = cc in (ap (λ (x : Write). x.count) same, ap (λ (x : Write). x.by) same)
      by_target t is = cc

  copies_left : (row : List MicroOp) (choice : ℕ) (words : List ℕ) (after : Machine) → FitsCopies p s row → list_all (is_good_op (inst_under p s) m) row ≡ true
      → LeavesValues p s row (values_of s.width (read_in (inst_under p s) choice words m) row) m after → LeavesCopies p s row m after
  copies_left row choice words after fits good left k o w c n last is =
      let told = told_count last.op w last.is_write in
      let small : o < target_count s.width last.op.target = subst (λ x. o < x) told.0 last.within in
      let value = value_is s.width (read_in (inst_under p s) choice words m) row k last.op last.is_op in
      left k o w c last
      ∙ ap (λ x. held c (nth_byte o x)) value.1
      ∙ ap (held c) (by_read choice words value.0 last.op (target_count s.width last.op.target) o n (input_fits row k last.op fits last.is_op) small
      (good_input (inst_under p s) m last.op (good_at (inst_under p s) m row k last.op good last.is_op)) (subst (λ by. byte_by p m by o ≡ Some n) told.1 is))

-- what holds of the state with the values written, where all accesses are good, holds after a step that isn't over
pub done_holds : (P : Machine → Type 0) (row : List MicroOp) (i : Inst) (goal : ℕ) (vs : List ℕ) (m : Machine) → is_over row vs ≡ false
    → (list_all (is_good_op i m) row ≡ true → P (written row i goal vs m)) → HoldsAfter P (ended_by row i goal vs m)
done_holds P row i goal vs m goes_on done =
    subst (λ over. HoldsAfter P (if over then Stepped.Moved (record m { at = m.at + 1 }) else if not (list_all (is_good_op i m) row) then Stepped.Faulted Fault.Access else if divides row vs then Stepped.Faulted Fault.Divide else moved (takes_outside row) (written row i goal vs m)))
    (sym goes_on) (by_good (list_all (is_good_op i m) row) done)
  where
    by_outside : (outside : Bool) → P (written row i goal vs m) → HoldsAfter P (moved outside (written row i goal vs m))
    by_outside true h = h
    by_outside false h = h

    by_divide : (d : Bool) → P (written row i goal vs m) → HoldsAfter P (if d then Stepped.Faulted Fault.Divide else moved (takes_outside row) (written row i goal vs m))
    by_divide true h = tt
    by_divide false h = by_outside (takes_outside row) h

    by_good : (good : Bool) → (good ≡ true → P (written row i goal vs m))
        → HoldsAfter P (if not good then Stepped.Faulted Fault.Access else if divides row vs then Stepped.Faulted Fault.Divide else moved (takes_outside row) (written row i goal vs m))
    by_good true h = by_divide (divides row vs) (h refl)
    by_good false h = tt

-- each value that is written last into a byte is left there
pub leaves_values : (p : Placement) (s : Sym) (m : Machine) (row : List MicroOp) (goal choice : ℕ) (words : List ℕ) → IsMachine m → FitsTargets p s row
    → is_over row (values_of s.width (read_in (inst_under p s) choice words m) row) ≡ false
    → HoldsAfter (LeavesValues p s row (values_of s.width (read_in (inst_under p s) choice words m) row) m) (row_ended row (inst_under p s) goal choice words m)
leaves_values p s m row goal choice words is_machine fits goes_on =
    done_holds (LeavesValues p s row (values_of s.width (read_in (inst_under p s) choice words m) row) m) row (inst_under p s) goal (values_of s.width (read_in (inst_under p s) choice words m) row) m goes_on
    (λ good. values_left p s m is_machine row (values_of s.width (read_in (inst_under p s) choice words m) row) (next_of row (values_of s.width (read_in (inst_under p s) choice words m) row) goal m.at) fits good)

-- the third law
pub leaves_copies : (p : Placement) (s : Sym) (m : Machine) (row : List MicroOp) (goal choice : ℕ) (words : List ℕ) → IsMachine m → FitsTargets p s row → FitsCopies p s row
    → is_over row (values_of s.width (read_in (inst_under p s) choice words m) row) ≡ false → HoldsAfter (LeavesCopies p s row m) (row_ended row (inst_under p s) goal choice words m)
leaves_copies p s m row goal choice words is_machine fits copies goes_on =
    done_holds (LeavesCopies p s row m) row (inst_under p s) goal (values_of s.width (read_in (inst_under p s) choice words m) row) m goes_on
    (λ good. copies_left p s m is_machine row choice words (written row (inst_under p s) goal (values_of s.width (read_in (inst_under p s) choice words m) row) m) copies good
    (values_left p s m is_machine row (values_of s.width (read_in (inst_under p s) choice words m) row) (next_of row (values_of s.width (read_in (inst_under p s) choice words m) row) goal m.at) fits good))
