-- A shift whose count is the number 0 changes nothing but the position.
use Rattle.std.proofs.Common.{◌≡◌, ℕ, zero, suc, ◌+◌, ◌-◌, ◌*◌, ◌/◌, ◌%◌, ◌^◌, ◌<◌, ℤ, pos, negsuc, List, length, slice_get, slice_index, Bool, true, false, Option, Some, refl, ap, sym, subst, ◌∙◌, arith}
use Rattle.std.proofs.lemmas.Bool.{eqb-true}
use Rattle.std.specs.List.{list_all}
use Rattle.asm_core.specs.Flag.{flag_in}
use Rattle.asm_core.specs.Function.{bits_of, modulus_of, bit, shift_count, value_of}
use Rattle.asm_core.specs.Machine.{IsMachine, reg_in, byte_at}
use Rattle.asm_core.specs.Memory.{modulo, address_of, word_at}
use Rattle.asm_core.specs.MicroOps.{count_of, bytes_named, part_of, with_part, read_arg, read_in, values_of, is_good_arg, is_good_target, is_good_op, destinations_of, arg_destination, put_all, next_of, written, row_ended}
use Rattle.asm_core.specs.Reading.Placed.{operand_at, inst_under}
use Rattle.asm_core.specs.RowLaws.{nth_byte, ChangesOnly, HasBytes, FitsOperand, FitsTargets}
use Rattle.asm_core.specs.RowTerms.{op3, arg, to_arg, flag, to_flag, repeated}
use Rattle.asm_core.specs.Rows.{is_zero_count}
use Rattle.asm_core.specs.Steps.{IsAfter, Stand}
use Rattle.asm_core.specs.Table.{row_of, is_shift}
use Rattle.asm_core.proofs.BytesRead.{word_byte}
use Rattle.asm_core.proofs.CopyLaws.{done_holds}
use Rattle.asm_core.proofs.DecideLaws.{holds_of}
use Rattle.asm_core.proofs.MachineLaws.{reg_in_small}
use Rattle.asm_core.proofs.StepLaws.{at_kept}
use Rattle.asm_core.proofs.ValuesLeft.{good_at, good_target}
use Rattle.x86_table.specs.TableLaws.{IsStepped}
use Rattle.x86_table.proofs.Idle.{Nothing, IsIdle, AreIdle, all_idle}
use Rattle.x86_table.proofs.TableTurns.{never_over}
use Rattle.x86_table.proofs.Turns.{picked_last}
use Rattle.asm_core.specs.declared.flag.Flag.{Flag}
use Rattle.asm_core.specs.declared.reg.Slice.{Slice}
use Rattle.asm_core.specs.declared.inst.InstArg.{InstArg}
use Rattle.asm_core.specs.declared.inst.Op.{Op}
use Rattle.asm_core.specs.declared.inst.Repeat.{Repeat}
use Rattle.asm_core.specs.declared.inst.Width.{Width}
use Rattle.asm_core.specs.declared.sym.Arg.{Arg}
use Rattle.asm_core.specs.declared.sym.Sym.{Sym}
use Rattle.asm_core.specs.declared.placement.Placement.{Placement}
use Rattle.asm_core.specs.declared.micro_op.Bytes.{Bytes}
use Rattle.asm_core.specs.declared.micro_op.Function.{Function}
use Rattle.asm_core.specs.declared.micro_op.Input.{Input}
use Rattle.asm_core.specs.declared.micro_op.Site.{Site}
use Rattle.asm_core.specs.declared.micro_op.MicroOp.{MicroOp}
use Rattle.asm_core.specs.declared.machine.Machine.{Machine}

-- ---- a shift by 0

left_by_0 : (w : Width) (x y : ℕ) → x % modulus_of w * 2 ^ 0 % modulus_of w ≡ x % modulus_of w
left_by_0 Width.B x y = omega arith
left_by_0 Width.W x y = omega arith
left_by_0 Width.L x y = omega arith
left_by_0 Width.Q x y = omega arith

right_by_0 : (w : Width) (x y : ℕ) → x % modulus_of w / 2 ^ 0 ≡ x % modulus_of w
right_by_0 Width.B x y = omega arith
right_by_0 Width.W x y = omega arith
right_by_0 Width.L x y = omega arith
right_by_0 Width.Q x y = omega arith

arithmetic_by_0 : (w : Width) (x y : ℕ) → (x % modulus_of w + x % modulus_of w / (modulus_of w / 2) * (modulus_of w * 2 ^ 32 - modulus_of w)) / 2 ^ 0 % modulus_of w ≡ x % modulus_of w
arithmetic_by_0 Width.B x y = omega arith
arithmetic_by_0 Width.W x y = omega arith
arithmetic_by_0 Width.L x y = omega arith
arithmetic_by_0 Width.Q x y = omega arith

rotated_left_by_0 : (w : Width) (x y : ℕ) → (x % modulus_of w * 2 ^ (0 % bits_of w) + x % modulus_of w * 2 ^ (0 % bits_of w) / modulus_of w) % modulus_of w ≡ x % modulus_of w
rotated_left_by_0 Width.B x y = omega arith
rotated_left_by_0 Width.W x y = omega arith
rotated_left_by_0 Width.L x y = omega arith
rotated_left_by_0 Width.Q x y = omega arith

rotated_right_by_0 : (w : Width) (x y : ℕ) → (x % modulus_of w * modulus_of w + x % modulus_of w) / 2 ^ (0 % bits_of w) % modulus_of w ≡ x % modulus_of w
rotated_right_by_0 Width.B x y = omega arith
rotated_right_by_0 Width.W x y = omega arith
rotated_right_by_0 Width.L x y = omega arith
rotated_right_by_0 Width.Q x y = omega arith

double_left_by_0 : (w : Width) (x y : ℕ) → (x % modulus_of w * 2 ^ 0 + y % modulus_of w * 2 ^ 0 / modulus_of w) % modulus_of w ≡ x % modulus_of w
double_left_by_0 Width.B x y = omega arith
double_left_by_0 Width.W x y = omega arith
double_left_by_0 Width.L x y = omega arith
double_left_by_0 Width.Q x y = omega arith

double_right_by_0 : (w : Width) (x y : ℕ) → (y % modulus_of w * modulus_of w + x % modulus_of w) / 2 ^ 0 % modulus_of w ≡ x % modulus_of w
double_right_by_0 Width.B x y = omega arith
double_right_by_0 Width.W x y = omega arith
double_right_by_0 Width.L x y = omega arith
double_right_by_0 Width.Q x y = omega arith

left_none : (w : Width) (x y z : ℕ) → shift_count y ≡ 0 → value_of Function.ShiftLeft w x y z ≡ x % modulus_of w
left_none w x y z none = ap (λ c. x % modulus_of w * 2 ^ c % modulus_of w) none ∙ left_by_0 w x y

right_none : (w : Width) (x y z : ℕ) → shift_count y ≡ 0 → value_of Function.ShiftRight w x y z ≡ x % modulus_of w
right_none w x y z none = ap (λ c. x % modulus_of w / 2 ^ c) none ∙ right_by_0 w x y

arithmetic_none : (w : Width) (x y z : ℕ) → shift_count y ≡ 0 → value_of Function.ShiftArithmeticRight w x y z ≡ x % modulus_of w
arithmetic_none w x y z none = ap (λ c. (x % modulus_of w + x % modulus_of w / (modulus_of w / 2) * (modulus_of w * 2 ^ 32 - modulus_of w)) / 2 ^ c % modulus_of w) none ∙ arithmetic_by_0 w x y

rotated_left_none : (w : Width) (x y z : ℕ) → shift_count y ≡ 0 → value_of Function.RotateLeft w x y z ≡ x % modulus_of w
rotated_left_none w x y z none = ap (λ c. (x % modulus_of w * 2 ^ (c % bits_of w) + x % modulus_of w * 2 ^ (c % bits_of w) / modulus_of w) % modulus_of w) none ∙ rotated_left_by_0 w x y

rotated_right_none : (w : Width) (x y z : ℕ) → shift_count y ≡ 0 → value_of Function.RotateRight w x y z ≡ x % modulus_of w
rotated_right_none w x y z none = ap (λ c. (x % modulus_of w * modulus_of w + x % modulus_of w) / 2 ^ (c % bits_of w) % modulus_of w) none ∙ rotated_right_by_0 w x y

double_left_none : (w : Width) (x y z : ℕ) → shift_count z ≡ 0 → value_of Function.ShiftDoubleLeft w x y z ≡ x % modulus_of w
double_left_none w x y z none = ap (λ c. (x % modulus_of w * 2 ^ c + y % modulus_of w * 2 ^ c / modulus_of w) % modulus_of w) none ∙ double_left_by_0 w x y

double_right_none : (w : Width) (x y z : ℕ) → shift_count z ≡ 0 → value_of Function.ShiftDoubleRight w x y z ≡ x % modulus_of w
double_right_none w x y z none = ap (λ c. (y % modulus_of w * modulus_of w + x % modulus_of w) / 2 ^ c % modulus_of w) none ∙ double_right_by_0 w x y

-- ---- the destination

low_byte : (w : Width) (o x : ℕ) → o < bits_of w / 8 → nth_byte o (x % modulus_of w) ≡ nth_byte o x
low_byte Width.B zero x small = omega arith
low_byte Width.B (suc o) x small = absurd (omega arith)
low_byte Width.W zero x small = omega arith
low_byte Width.W (suc zero) x small = omega arith
low_byte Width.W (suc (suc o)) x small = absurd (omega arith)
low_byte Width.L zero x small = omega arith
low_byte Width.L (suc zero) x small = omega arith
low_byte Width.L (suc (suc zero)) x small = omega arith
low_byte Width.L (suc (suc (suc zero))) x small = omega arith
low_byte Width.L (suc (suc (suc (suc o)))) x small = absurd (omega arith)
low_byte Width.Q zero x small = omega arith
low_byte Width.Q (suc zero) x small = omega arith
low_byte Width.Q (suc (suc zero)) x small = omega arith
low_byte Width.Q (suc (suc (suc zero))) x small = omega arith
low_byte Width.Q (suc (suc (suc (suc zero)))) x small = omega arith
low_byte Width.Q (suc (suc (suc (suc (suc zero))))) x small = omega arith
low_byte Width.Q (suc (suc (suc (suc (suc (suc zero)))))) x small = omega arith
low_byte Width.Q (suc (suc (suc (suc (suc (suc (suc zero))))))) x small = omega arith
low_byte Width.Q (suc (suc (suc (suc (suc (suc (suc (suc o)))))))) x small = absurd (omega arith)

part_kept : (w : Width) (slice : Slice) (old : ℕ) → HasBytes w slice Bytes.Whole → old < 2 ^ 32 → with_part (bytes_named slice) (part_of (bytes_named slice) old % modulus_of w) old ≡ old
part_kept Width.B Slice.Low8 old fits small = omega arith
part_kept Width.B Slice.High8 old fits small = omega arith
part_kept Width.W Slice.Low16 old fits small = omega arith
part_kept Width.L Slice.All old fits small = omega arith
part_kept Width.B Slice.Low16 old fits small = absurd (omega (arith, fits))
part_kept Width.B Slice.All old fits small = absurd (omega (arith, fits))
part_kept Width.W Slice.Low8 old fits small = absurd (omega (arith, fits))
part_kept Width.W Slice.High8 old fits small = absurd (omega (arith, fits))
part_kept Width.W Slice.All old fits small = absurd (omega (arith, fits))
part_kept Width.L Slice.Low8 old fits small = absurd (omega (arith, fits))
part_kept Width.L Slice.High8 old fits small = absurd (omega (arith, fits))
part_kept Width.L Slice.Low16 old fits small = absurd (omega (arith, fits))
part_kept Width.Q Slice.Low8 old fits small = absurd (omega (arith, fits))
part_kept Width.Q Slice.High8 old fits small = absurd (omega (arith, fits))
part_kept Width.Q Slice.Low16 old fits small = absurd (omega (arith, fits))
part_kept Width.Q Slice.All old fits small = absurd (omega (arith, fits))

destination_idle : (w : Width) (m : Machine) (x : Option InstArg) (v : ℕ) → IsMachine m → FitsOperand w Bytes.Whole x → v ≡ read_arg w Bytes.Whole x m % modulus_of w → IsIdle (arg_destination w Bytes.Whole x m) v m
destination_idle w m (Some (InstArg.Register r slice)) v is_machine fits e =
    subst (λ v. with_part (bytes_named slice) v (reg_in r m) ≡ reg_in r m) (sym e) (part_kept w slice (reg_in r m) fits (reg_in_small r m is_machine))
destination_idle w m (Some (InstArg.Address form k)) v is_machine fits e =
    λ o small. ap (nth_byte o) e ∙ low_byte w o (word_at (bits_of w / 8) (address_of form m + 0) m.ranges) small ∙ word_byte (bits_of w / 8) o (address_of form m + 0) m.ranges is_machine.ranges small
    ∙ ap (byte_at m.ranges) (at_start (address_of form m) o)
  where
    at_start : (a o : ℕ) → (a + 0 + o) % 2 ^ 32 ≡ ((a + 0) % 2 ^ 32 + o) % 2 ^ 32
    at_start a o = omega arith
destination_idle w m x v is_machine fits e = tt

-- ---- the count

number_zero : (w : Width) (n : ℤ) → modulo n 5 ≡ 0 → shift_count (modulo n (8 * count_of w Bytes.Whole)) ≡ 0
number_zero Width.B (pos n) h = omega arith
number_zero Width.B (negsuc n) h = omega arith
number_zero Width.W (pos n) h = omega arith
number_zero Width.W (negsuc n) h = omega arith
number_zero Width.L (pos n) h = omega arith
number_zero Width.L (negsuc n) h = omega arith
number_zero Width.Q (pos n) h = omega arith
number_zero Width.Q (negsuc n) h = omega arith

count_zero : (p : Placement) (w : Width) (m : Machine) (x : Option Arg) → is_zero_count x ≡ true → shift_count (read_arg w Bytes.Whole (operand_at p x) m) ≡ 0
count_zero p w m (Some (Arg.Number n)) h = number_zero w n (eqb-true (modulo n 5) 0 h)
count_zero p w m x h = cc

-- ---- rows

module _ (p : Placement) (s : Sym) (m : Machine) (choice : ℕ) (words : List ℕ) (is_machine : IsMachine m) (none : shift_count (read_arg s.width Bytes.Whole (operand_at p (slice_get s.args 0)) m) ≡ 0) where
  flag_idle : (row : List MicroOp) (k : ℕ) (f : Flag) (value : Input) → slice_get row k ≡ Some (op3 (to_flag f) Function.Pick (Input.Earlier 0) value (flag f)) → 0 < k
      → slice_index (values_of s.width (read_in (inst_under p s) choice words m) row) 0 ≡ 0 → slice_index (values_of s.width (read_in (inst_under p s) choice words m) row) k % 2 ≡ bit (flag_in f m.flags)
  flag_idle row k f value at later none = ap (λ v. v % 2) (picked_last s.width (read_in (inst_under p s) choice words m) row k (to_flag f) value (Site.Flag f) at later none) ∙ by_bit (flag_in f m.flags)
    where
      by_bit : (b : Bool) → bit b % 2 ≡ bit b
      by_bit true = refl
      by_bit false = refl

  abbrev RowIdle : List MicroOp → Type 0
  RowIdle row = FitsTargets p s row → AreIdle (destinations_of (inst_under p s) m row) 0 (values_of s.width (read_in (inst_under p s) choice words m) row) m

  abbrev operand : ℕ → ℕ
  operand k = read_in (inst_under p s) choice words m (arg k)

  shl_idle : RowIdle (row_of Op.Shl s.width 2)
  shl_idle fits = let result = destination_idle s.width m (operand_at p (slice_get s.args 1)) _ is_machine fits.1.0 (left_none s.width (operand 1) (operand 0) 0 none) in (tt, (result, (tt, (tt, (tt, (tt, (tt, (tt, (tt, (tt, (tt, (flag_idle (row_of Op.Shl s.width 2) 11 Flag.Cf _ refl (omega arith) none, (flag_idle (row_of Op.Shl s.width 2) 12 Flag.Pf _ refl (omega arith) none, (flag_idle (row_of Op.Shl s.width 2) 13 Flag.Af _ refl (omega arith) none, (flag_idle (row_of Op.Shl s.width 2) 14 Flag.Zf _ refl (omega arith) none, (flag_idle (row_of Op.Shl s.width 2) 15 Flag.Sf _ refl (omega arith) none, (flag_idle (row_of Op.Shl s.width 2) 16 Flag.Of _ refl (omega arith) none, tt)))))))))))))))))

  shr_idle : RowIdle (row_of Op.Shr s.width 2)
  shr_idle fits = let result = destination_idle s.width m (operand_at p (slice_get s.args 1)) _ is_machine fits.1.0 (right_none s.width (operand 1) (operand 0) 0 none) in (tt, (result, (tt, (tt, (tt, (tt, (tt, (tt, (tt, (tt, (tt, (flag_idle (row_of Op.Shr s.width 2) 11 Flag.Cf _ refl (omega arith) none, (flag_idle (row_of Op.Shr s.width 2) 12 Flag.Pf _ refl (omega arith) none, (flag_idle (row_of Op.Shr s.width 2) 13 Flag.Af _ refl (omega arith) none, (flag_idle (row_of Op.Shr s.width 2) 14 Flag.Zf _ refl (omega arith) none, (flag_idle (row_of Op.Shr s.width 2) 15 Flag.Sf _ refl (omega arith) none, (flag_idle (row_of Op.Shr s.width 2) 16 Flag.Of _ refl (omega arith) none, tt)))))))))))))))))

  sar_idle : RowIdle (row_of Op.Sar s.width 2)
  sar_idle fits = let result = destination_idle s.width m (operand_at p (slice_get s.args 1)) _ is_machine fits.1.0 (arithmetic_none s.width (operand 1) (operand 0) 0 none) in (tt, (result, (tt, (tt, (tt, (tt, (tt, (tt, (flag_idle (row_of Op.Sar s.width 2) 8 Flag.Cf _ refl (omega arith) none, (flag_idle (row_of Op.Sar s.width 2) 9 Flag.Pf _ refl (omega arith) none, (flag_idle (row_of Op.Sar s.width 2) 10 Flag.Af _ refl (omega arith) none, (flag_idle (row_of Op.Sar s.width 2) 11 Flag.Zf _ refl (omega arith) none, (flag_idle (row_of Op.Sar s.width 2) 12 Flag.Sf _ refl (omega arith) none, (flag_idle (row_of Op.Sar s.width 2) 13 Flag.Of _ refl (omega arith) none, tt))))))))))))))

  rol_idle : RowIdle (row_of Op.Rol s.width 2)
  rol_idle fits = let result = destination_idle s.width m (operand_at p (slice_get s.args 1)) _ is_machine fits.1.0 (rotated_left_none s.width (operand 1) (operand 0) 0 none) in (tt, (result, (tt, (tt, (tt, (tt, (tt, (tt, (tt, (flag_idle (row_of Op.Rol s.width 2) 9 Flag.Cf _ refl (omega arith) none, (flag_idle (row_of Op.Rol s.width 2) 10 Flag.Of _ refl (omega arith) none, tt)))))))))))

  ror_idle : RowIdle (row_of Op.Ror s.width 2)
  ror_idle fits = let result = destination_idle s.width m (operand_at p (slice_get s.args 1)) _ is_machine fits.1.0 (rotated_right_none s.width (operand 1) (operand 0) 0 none) in (tt, (result, (tt, (tt, (tt, (tt, (tt, (tt, (flag_idle (row_of Op.Ror s.width 2) 8 Flag.Cf _ refl (omega arith) none, (flag_idle (row_of Op.Ror s.width 2) 9 Flag.Of _ refl (omega arith) none, tt))))))))))

  shld_idle : RowIdle (row_of Op.Shld s.width 3)
  shld_idle fits = let result = destination_idle s.width m (operand_at p (slice_get s.args 2)) _ is_machine fits.1.0 (double_left_none s.width (operand 2) (operand 1) (operand 0) none) in (tt, (result, (tt, (tt, (tt, (tt, (tt, (tt, (tt, (tt, (tt, (tt, (flag_idle (row_of Op.Shld s.width 3) 12 Flag.Cf _ refl (omega arith) none, (flag_idle (row_of Op.Shld s.width 3) 13 Flag.Pf _ refl (omega arith) none, (flag_idle (row_of Op.Shld s.width 3) 14 Flag.Af _ refl (omega arith) none, (flag_idle (row_of Op.Shld s.width 3) 15 Flag.Zf _ refl (omega arith) none, (flag_idle (row_of Op.Shld s.width 3) 16 Flag.Sf _ refl (omega arith) none, (flag_idle (row_of Op.Shld s.width 3) 17 Flag.Of _ refl (omega arith) none, tt))))))))))))))))))

  shrd_idle : RowIdle (row_of Op.Shrd s.width 3)
  shrd_idle fits = let result = destination_idle s.width m (operand_at p (slice_get s.args 2)) _ is_machine fits.1.0 (double_right_none s.width (operand 2) (operand 1) (operand 0) none) in (tt, (result, (tt, (tt, (tt, (tt, (tt, (tt, (tt, (tt, (tt, (tt, (flag_idle (row_of Op.Shrd s.width 3) 12 Flag.Cf _ refl (omega arith) none, (flag_idle (row_of Op.Shrd s.width 3) 13 Flag.Pf _ refl (omega arith) none, (flag_idle (row_of Op.Shrd s.width 3) 14 Flag.Af _ refl (omega arith) none, (flag_idle (row_of Op.Shrd s.width 3) 15 Flag.Zf _ refl (omega arith) none, (flag_idle (row_of Op.Shrd s.width 3) 16 Flag.Sf _ refl (omega arith) none, (flag_idle (row_of Op.Shrd s.width 3) 17 Flag.Of _ refl (omega arith) none, tt))))))))))))))))))

-- ---- a step

shift_refused : (p : Placement) (w : Width) (m : Machine) (x : Option Arg) → is_zero_count x ≡ true → is_good_arg w Bytes.Whole true (operand_at p x) m ≡ true → ⊥
shift_refused p w m (Some (Arg.Number n)) h good = cc
shift_refused p w m x h good = cc

module _ (p : Placement) (s : Sym) (m : Machine) (zero_count : is_zero_count (slice_get s.args 0) ≡ true) where
  abbrev IsGood : List MicroOp → Type 0
  IsGood row = list_all (is_good_op (inst_under p s) m) row ≡ true

  -- where the first operand, a number, would be shifted, the step is a fault
  one_refused : (row : List MicroOp) (op : MicroOp) → slice_get row 1 ≡ Some op → op.target ≡ to_arg 0 → IsGood row → ⊥
  one_refused row op at to good = shift_refused p s.width m (slice_get s.args 0) zero_count (subst (λ t. is_good_target (inst_under p s) m t ≡ true) to (good_target (inst_under p s) m op (good_at (inst_under p s) m row 1 op good at)))

  good_idle : (choice : ℕ) (words : List ℕ) (is_machine : IsMachine m) (op : Op) (n : ℕ) → is_shift op ≡ true → IsGood (row_of op s.width n) → FitsTargets p s (row_of op s.width n)
      → AreIdle (destinations_of (inst_under p s) m (row_of op s.width n)) 0 (values_of s.width (read_in (inst_under p s) choice words m) (row_of op s.width n)) m
  good_idle choice words is_machine Op.Shl zero shift good fits = shl_idle p s m choice words is_machine (count_zero p s.width m (slice_get s.args 0) zero_count) fits
  good_idle choice words is_machine Op.Shl (suc zero) shift good fits = absurd (one_refused (row_of Op.Shl s.width 1) _ refl refl good)
  good_idle choice words is_machine Op.Shl (suc (suc n)) shift good fits = shl_idle p s m choice words is_machine (count_zero p s.width m (slice_get s.args 0) zero_count) fits
  good_idle choice words is_machine Op.Shr zero shift good fits = shr_idle p s m choice words is_machine (count_zero p s.width m (slice_get s.args 0) zero_count) fits
  good_idle choice words is_machine Op.Shr (suc zero) shift good fits = absurd (one_refused (row_of Op.Shr s.width 1) _ refl refl good)
  good_idle choice words is_machine Op.Shr (suc (suc n)) shift good fits = shr_idle p s m choice words is_machine (count_zero p s.width m (slice_get s.args 0) zero_count) fits
  good_idle choice words is_machine Op.Sar zero shift good fits = sar_idle p s m choice words is_machine (count_zero p s.width m (slice_get s.args 0) zero_count) fits
  good_idle choice words is_machine Op.Sar (suc zero) shift good fits = absurd (one_refused (row_of Op.Sar s.width 1) _ refl refl good)
  good_idle choice words is_machine Op.Sar (suc (suc n)) shift good fits = sar_idle p s m choice words is_machine (count_zero p s.width m (slice_get s.args 0) zero_count) fits
  good_idle choice words is_machine Op.Rol zero shift good fits = rol_idle p s m choice words is_machine (count_zero p s.width m (slice_get s.args 0) zero_count) fits
  good_idle choice words is_machine Op.Rol (suc zero) shift good fits = absurd (one_refused (row_of Op.Rol s.width 1) _ refl refl good)
  good_idle choice words is_machine Op.Rol (suc (suc n)) shift good fits = rol_idle p s m choice words is_machine (count_zero p s.width m (slice_get s.args 0) zero_count) fits
  good_idle choice words is_machine Op.Ror zero shift good fits = ror_idle p s m choice words is_machine (count_zero p s.width m (slice_get s.args 0) zero_count) fits
  good_idle choice words is_machine Op.Ror (suc zero) shift good fits = absurd (one_refused (row_of Op.Ror s.width 1) _ refl refl good)
  good_idle choice words is_machine Op.Ror (suc (suc n)) shift good fits = ror_idle p s m choice words is_machine (count_zero p s.width m (slice_get s.args 0) zero_count) fits
  good_idle choice words is_machine Op.Shld n shift good fits = shld_idle p s m choice words is_machine (count_zero p s.width m (slice_get s.args 0) zero_count) fits
  good_idle choice words is_machine Op.Shrd n shift good fits = shrd_idle p s m choice words is_machine (count_zero p s.width m (slice_get s.args 0) zero_count) fits
  good_idle choice words is_machine op n shift good fits = cc

  -- a step that is no fault
  row_idle : (goal choice : ℕ) (words : List ℕ) (after : Machine) → IsMachine m → is_shift s.op ≡ true → FitsTargets p s (row_of s.op s.width (length s.args))
      → IsAfter (row_ended (row_of s.op s.width (length s.args)) (inst_under p s) goal choice words m) after → ChangesOnly Nothing m after
  row_idle goal choice words after is_machine shift fits step =
      holds_of (ChangesOnly Nothing m) (row_ended row (inst_under p s) goal choice words m) after
      (done_holds (ChangesOnly Nothing m) row (inst_under p s) goal vs m (never_over s.op s.width (length s.args) vs) changes) step
    where
      row : List MicroOp
      row = row_of s.op s.width (length s.args)

      vs : List ℕ
      vs = values_of s.width (read_in (inst_under p s) choice words m) row

      changes : IsGood row → ChangesOnly Nothing m (written row (inst_under p s) goal vs m)
      changes good =
          let idle = all_idle (destinations_of (inst_under p s) m row) 0 vs m m (good_idle choice words is_machine s.op (length s.args) shift good fits) (record { components = λ c missed. refl; layouts = refl }) in
          record { components = λ c missed. at_kept c (put_all (destinations_of (inst_under p s) m row) 0 vs m) (next_of row vs goal m.at) ∙ idle.components c missed; layouts = idle.layouts }

pub shift_steps : (s : Sym) → s.repeat ≡ Repeat.No → is_shift s.op ≡ true → is_zero_count (slice_get s.args 0) ≡ true → (x : Stand) → IsStepped s x → ChangesOnly Nothing x.before x.after
shift_steps s no_prefix shift zero_count x stepped =
    row_idle x.at s x.before zero_count x.goal x.choice x.words x.after stepped.is_machine shift
    (subst (λ r. FitsTargets x.at s (repeated r (row_of s.op s.width (length s.args)))) no_prefix stepped.fits)
    (subst (λ r. IsAfter (row_ended (repeated r (row_of s.op s.width (length s.args))) (inst_under x.at s) x.goal x.choice x.words x.before) x.after) no_prefix stepped.step)
