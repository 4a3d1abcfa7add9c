-- A placed line steps as the line says.
use Rattle.std.proofs.Common.{◌≡◌, ℕ, zero, suc, ◌==◌, ◌≤◌, List, [], ◌∷◌, ◌++◌, length, slice_get, Bool, true, false, if◌then◌else◌, Option, None, Some, bit_or, refl, ap, sym, subst, ◌∙◌, arith}
use Rattle.std.specs.Int.{bit_at}
use Rattle.std.proofs.lemmas.Nat.Bits.{bit_at_or, bit_at-lt}
use Rattle.std.proofs.lemmas.Bool.{eqb-true}
use Rattle.std.proofs.lemmas.Option.{slice_get_past}
use Rattle.asm_core.specs.MicroOps.{arg_at, read_arg, read_in, row_ended}
use Rattle.asm_core.specs.Reading.Placed.{operand_under, operand_at, inst_under}
use Rattle.asm_core.specs.Entries.{fact_in, fact_for, is_sure, value_if_known, known_from, names_of_three, picked, fact_joined, op_fact, facts_from, facts_of, known_number, known_in}
use Rattle.asm_core.specs.Rows.{inst_row, arg_count, line_row}
use Rattle.asm_core.specs.RowTerms.{repeated}
use Rattle.asm_core.specs.Table.{row_of}
use Rattle.asm_core.specs.RowLaws.{Knows, known_operand, known_of, IsPlaced, StepsAsLine}
use Rattle.asm_core.proofs.FactLaws.{or_left, or_right}
use Rattle.asm_core.specs.declared.inst.Width.{Width}
use Rattle.asm_core.specs.declared.inst.Inst.{Inst}
use Rattle.asm_core.specs.declared.inst.InstArg.{InstArg}
use Rattle.asm_core.specs.declared.sym.Arg.{Arg}
use Rattle.asm_core.specs.declared.sym.Sym.{Sym}
use Rattle.asm_core.specs.declared.placement.Placement.{Placement}
use Rattle.asm_core.specs.declared.machine.Machine.{Machine}
use Rattle.asm_core.specs.declared.micro_op.Bytes.{Bytes}
use Rattle.asm_core.specs.declared.micro_op.Site.{Site}
use Rattle.asm_core.specs.declared.micro_op.Input.{Input}
use Rattle.asm_core.specs.declared.micro_op.Function.{Function}
use Rattle.asm_core.specs.declared.micro_op.MicroOp.{MicroOp}
use Rattle.asm_core.specs.declared.micro_op.Fact.{Fact}

-- ---- where more is known, no more is named

module _ (w : Width) (less more : Input → Option ℕ) (kept : (x : Input) (n : ℕ) → less x ≡ Some n → more x ≡ Some n) where
  -- the second fact knows what the first knows, and names no more
  pub record IsSharper (f g : Fact) : Type 0 where
    pub known : (n : ℕ) → f.known ≡ Some n → g.known ≡ Some n
    pub names : (r : ℕ) → bit_at g.names r ≡ 1 → bit_at f.names r ≡ 1

  abbrev pub AreSharper : List Fact → List Fact → Type 0
  AreSharper [] [] = Unit {0}
  AreSharper (f ∷ fs) (g ∷ gs) = IsSharper f g × AreSharper fs gs
  AreSharper fs gs = ⊥

  pub sharper_at : (fs gs : List Fact) (k : ℕ) → AreSharper fs gs → IsSharper (fact_in fs k) (fact_in gs k)
  sharper_at [] [] k h = record { known = λ n e. e; names = λ r e. e }
  sharper_at (f ∷ fs) (g ∷ gs) zero h = h.0
  sharper_at (f ∷ fs) (g ∷ gs) (suc k) h = sharper_at fs gs k h.1
  sharper_at [] (g ∷ gs) k h = absurd h
  sharper_at (f ∷ fs) [] k h = absurd h

  sharper_more : (fs gs : List Fact) (f g : Fact) → AreSharper fs gs → IsSharper f g → AreSharper (fs ++ f ∷ []) (gs ++ g ∷ [])
  sharper_more [] [] f g h one = (one, tt)
  sharper_more (a ∷ fs) (b ∷ gs) f g h one = (h.0, sharper_more fs gs f g h.1 one)
  sharper_more [] (b ∷ gs) f g h one = absurd h
  sharper_more (a ∷ fs) [] f g h one = absurd h

  input_sharper : (fs gs : List Fact) (x : Input) → AreSharper fs gs → IsSharper (fact_for w less fs x) (fact_for w more gs x)
  input_sharper fs gs (Input.Earlier k) h = sharper_at fs gs k h
  input_sharper fs gs (Input.Number n) h = record { known = λ n e. e; names = λ r e. e }
  input_sharper fs gs (Input.Read site) h = record { known = kept (Input.Read site); names = λ r e. e }
  input_sharper fs gs (Input.Kept site) h = record { known = kept (Input.Kept site); names = λ r e. e }
  input_sharper fs gs (Input.Address k) h = record { known = kept (Input.Address k); names = λ r e. e }
  input_sharper fs gs Input.Top h = record { known = kept Input.Top; names = λ r e. e }
  input_sharper fs gs (Input.Undefined n) h = record { known = kept (Input.Undefined n); names = λ r e. e }
  input_sharper fs gs (Input.Outside k) h = record { known = kept (Input.Outside k); names = λ r e. e }

  -- ---- a function

  -- a bit of both numbers together is one of either
  or_cases : (a b i : ℕ) → bit_at (bit_or a b) i ≡ 1 → (bit_at b i ≡ 1 → ⊥) → bit_at a i ≡ 1
  or_cases a b i h none = let e = bit_at_or a b i in let small = bit_at-lt a i in let small_b = bit_at-lt b i in omega arith

  or_kept : (a b a' b' i : ℕ) → (bit_at a' i ≡ 1 → bit_at a i ≡ 1) → (bit_at b' i ≡ 1 → bit_at b i ≡ 1) → bit_at (bit_or a' b') i ≡ 1 → bit_at (bit_or a b) i ≡ 1
  or_kept a b a' b' i at_a at_b h = by_bit (bit_at b' i == 1) refl
    where
      by_bit : (t : Bool) → (bit_at b' i == 1) ≡ t → bit_at (bit_or a b) i ≡ 1
      by_bit true e = or_right a b i (at_b (eqb-true (bit_at b' i) 1 e))
      by_bit false e = or_left a b i (at_a (or_cases a' b' i h (λ is. cc)))

  three_sharper : (x y z x' y' z' : Fact) → IsSharper x x' → IsSharper y y' → IsSharper z z' → (r : ℕ) → bit_at (names_of_three x' y' z') r ≡ 1 → bit_at (names_of_three x y z) r ≡ 1
  three_sharper x y z x' y' z' is_x is_y is_z r h =
      or_kept x.names (bit_or y.names z.names) x'.names (bit_or y'.names z'.names) r (is_x.names r) (or_kept y.names z.names y'.names z'.names r (is_y.names r) (is_z.names r)) h

  value_kept : (f : Function) (x y z x' y' z' : Option ℕ) → ((n : ℕ) → x ≡ Some n → x' ≡ Some n) → ((n : ℕ) → y ≡ Some n → y' ≡ Some n) → ((n : ℕ) → z ≡ Some n → z' ≡ Some n)
      → (n : ℕ) → value_if_known f w x y z ≡ Some n → value_if_known f w x' y' z' ≡ Some n
  value_kept f (Some a) (Some b) (Some c) x' y' z' is_x is_y is_z n e = let at_x = is_x a refl in let at_y = is_y b refl in let at_z = is_z c refl in rw (at_x, at_y, at_z) e
  value_kept f None y z x' y' z' is_x is_y is_z n e = cc
  value_kept f (Some a) None z x' y' z' is_x is_y is_z n e = cc
  value_kept f (Some a) (Some b) None x' y' z' is_x is_y is_z n e = cc

  known_kept : (f : Function) (x y z x' y' z' : Fact) → IsSharper x x' → IsSharper y y' → IsSharper z z' → (n : ℕ) → known_from f w x.known y.known z.known ≡ Some n → known_from f w x'.known y'.known z'.known ≡ Some n
  known_kept f x y z x' y' z' is_x is_y is_z n e = by_sure (is_sure f w) e
    where
      by_sure : (sure : Bool) → (if sure then Some 1 else value_if_known f w x.known y.known z.known) ≡ Some n → (if sure then Some 1 else value_if_known f w x'.known y'.known z'.known) ≡ Some n
      by_sure true e = e
      by_sure false e = value_kept f x.known y.known z.known x'.known y'.known z'.known is_x.known is_y.known is_z.known n e

  value_sharper : (f : Function) (x y z x' y' z' : Fact) → IsSharper x x' → IsSharper y y' → IsSharper z z'
      → IsSharper (record { known = known_from f w x.known y.known z.known; names = names_of_three x y z }) (record { known = known_from f w x'.known y'.known z'.known; names = names_of_three x' y' z' })
  value_sharper f x y z x' y' z' is_x is_y is_z = record { known = known_kept f x y z x' y' z' is_x is_y is_z; names = three_sharper x y z x' y' z' is_x is_y is_z }

  pick_sharper : (o o' : Option ℕ) (x y z x' y' z' : Fact) → ((n : ℕ) → o ≡ Some n → o' ≡ Some n) → IsSharper x x' → IsSharper y y' → IsSharper z z' → IsSharper (picked o x y z) (picked o' x' y' z')
  pick_sharper None None x y z x' y' z' more is_x is_y is_z = record { known = λ n e. cc; names = three_sharper x y z x' y' z' is_x is_y is_z }
  pick_sharper None (Some n) x y z x' y' z' more is_x is_y is_z = by_test (n == 0)
    where
      by_test : (t : Bool) → IsSharper (picked None x y z) (if t then z' else y')
      by_test true = record { known = λ n e. cc; names = λ r h. or_right x.names (bit_or y.names z.names) r (or_right y.names z.names r (is_z.names r h)) }
      by_test false = record { known = λ n e. cc; names = λ r h. or_right x.names (bit_or y.names z.names) r (or_left y.names z.names r (is_y.names r h)) }
  pick_sharper (Some n) o' x y z x' y' z' more is_x is_y is_z = subst (λ o. IsSharper (if n == 0 then z else y) (picked o x' y' z')) (sym (more n refl)) (by_test (n == 0))
    where
      by_test : (t : Bool) → IsSharper (if t then z else y) (if t then z' else y')
      by_test true = is_z
      by_test false = is_y

  joined_sharper : (f : Function) (x y z x' y' z' : Fact) → IsSharper x x' → IsSharper y y' → IsSharper z z' → IsSharper (fact_joined f w x y z) (fact_joined f w x' y' z')
  joined_sharper Function.Pick x y z x' y' z' is_x is_y is_z = pick_sharper x.known x'.known x y z x' y' z' is_x.known is_x is_y is_z
  joined_sharper f x y z x' y' z' is_x is_y is_z = value_sharper f x y z x' y' z' is_x is_y is_z

  pub row_sharper : (row : List MicroOp) (fs gs : List Fact) → AreSharper fs gs → AreSharper (facts_from w less row fs) (facts_from w more row gs)
  row_sharper [] fs gs h = h
  row_sharper (op ∷ row) fs gs h =
      row_sharper row (fs ++ op_fact w less fs op ∷ []) (gs ++ op_fact w more gs op ∷ [])
      (sharper_more fs gs (op_fact w less fs op) (op_fact w more gs op) h
      (joined_sharper op.function (fact_for w less fs op.x) (fact_for w less fs op.y) (fact_for w less fs op.z) (fact_for w more gs op.x) (fact_for w more gs op.y) (fact_for w more gs op.z)
      (input_sharper fs gs op.x h) (input_sharper fs gs op.y h) (input_sharper fs gs op.z h)))

  pub row_names : (row : List MicroOp) (k r : ℕ) → bit_at (fact_in (facts_of w more row) k).names r ≡ 1 → bit_at (fact_in (facts_of w less row) k).names r ≡ 1
  row_names row k r h = (sharper_at (facts_of w less row) (facts_of w more row) k (row_sharper row [] [] tt)).names r h

-- ---- a line

placed_known : (p : Placement) (w : Width) (bytes : Bytes) (o : Option Arg) (n : ℕ) → known_number w bytes o ≡ Some n → known_operand w bytes (operand_at p o) ≡ Some n
placed_known p w bytes (Some (Arg.Number z)) n e = e
placed_known p w bytes o n e = cc

known_read : (w : Width) (bytes : Bytes) (o : Option InstArg) (m : Machine) (n : ℕ) → known_operand w bytes o ≡ Some n → read_arg w bytes o m ≡ n
known_read w bytes (Some (InstArg.Number z)) m n e = cc
known_read w bytes o m n e = cc

module _ (p : Placement) (s : Sym) (few : length s.args ≤ 3) where
  operands_placed : (k : ℕ) → arg_at (inst_under p s) k ≡ operand_at p (slice_get s.args k)
  operands_placed zero = refl
  operands_placed (suc zero) = refl
  operands_placed (suc (suc zero)) = refl
  operands_placed (suc (suc (suc k))) = ap (operand_at p) (sym (slice_get_past s.args (suc (suc (suc k))) (omega arith)))

  more_known : (x : Input) (n : ℕ) → known_in s x ≡ Some n → known_of (inst_under p s) x ≡ Some n
  more_known (Input.Read (Site.Argument k bytes)) n e = ap (known_operand s.width bytes) (operands_placed k) ∙ placed_known p s.width bytes (slice_get s.args k) n e
  more_known (Input.Kept (Site.Argument k bytes)) n e = ap (known_operand s.width bytes) (operands_placed k) ∙ placed_known p s.width bytes (slice_get s.args k) n e
  more_known x n e = cc

knows_numbers : (i : Inst) (choice : ℕ) (words : List ℕ) (m : Machine) → Knows (known_of i) (read_in i choice words m)
knows_numbers i choice words m = record { is = is }
  where
    is : (x : Input) (n : ℕ) → known_of i x ≡ Some n → read_in i choice words m x ≡ n
    is (Input.Read (Site.Argument k bytes)) n e = known_read i.width bytes (arg_at i k) m n e
    is (Input.Kept (Site.Argument k bytes)) n e = known_read i.width bytes (arg_at i k) m n e
    is x n e = cc

-- a line's operands stand first, so that the last one tells their number
count_placed : (p : Placement) (s : Sym) → IsPlaced p s → arg_count (inst_under p s) ≡ length s.args
count_placed p s h = by_args s.args h.few h.each
  where
    by_args : (args : List Arg) → length args ≤ 3 → ((k : ℕ) (arg : Arg) → slice_get args k ≡ Some arg → operand_under p arg ≡ None → ⊥) → arg_count (inst_under p (record s { args = args })) ≡ length args
    by_args [] few each = refl
    by_args (a ∷ []) few each = one (operand_under p a) (each 0 a refl)
      where
        one : (o : Option InstArg) → (o ≡ None → ⊥) → arg_count (record (inst_under p s) { args = o ∷ None ∷ None ∷ [] }) ≡ 1
        one None some = absurd (some refl)
        one (Some x) some = refl
    by_args (a ∷ b ∷ []) few each = two (operand_under p b) (each 1 b refl)
      where
        two : (o : Option InstArg) → (o ≡ None → ⊥) → arg_count (record (inst_under p s) { args = operand_under p a ∷ o ∷ None ∷ [] }) ≡ 2
        two None some = absurd (some refl)
        two (Some x) some = refl
    by_args (a ∷ b ∷ c ∷ []) few each = three (operand_under p c) (each 2 c refl)
      where
        three : (o : Option InstArg) → (o ≡ None → ⊥) → arg_count (record (inst_under p s) { args = operand_under p a ∷ operand_under p b ∷ o ∷ [] }) ≡ 3
        three None some = absurd (some refl)
        three (Some x) some = refl
    by_args (a ∷ b ∷ c ∷ d ∷ rest) few each = absurd (omega arith)

-- the fourth law
pub steps_as_line : (p : Placement) (s : Sym) → IsPlaced p s → StepsAsLine p s
steps_as_line p s h = record {
  row = same;
  operands = operands_placed p s h.few;
  steps = λ goal choice words m. ap (λ row. row_ended row (inst_under p s) goal choice words m) same;
  knows = knows_numbers (inst_under p s);
  names = row_names s.width (known_in s) (known_of (inst_under p s)) (more_known p s h.few);
}
  where
    same : inst_row (inst_under p s) ≡ line_row s
    same = ap (λ n. repeated s.repeat (row_of s.op s.width n)) (count_placed p s h)
