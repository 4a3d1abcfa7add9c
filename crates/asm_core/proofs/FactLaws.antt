-- What a value names decides it: two readings that agree on what is named give equal values.
use Rattle.std.proofs.Common.{◌≡◌, ℕ, zero, suc, ◌+◌, ◌%◌, ◌==◌, List, [], ◌∷◌, ◌++◌, length, slice_get, slice_index, ◌≤◌, Bool, true, false, if◌then◌else◌, Option, None, Some, bit_or, ◌&&◌, ◌||◌, refl, ap, ap₂, sym, subst, ◌∙◌, arith}
use Rattle.std.specs.Int.{bit_at}
use Rattle.std.proofs.lemmas.Nat.Bits.{bit_at_or, bit_at-lt, bit_at-pow_same}
use Rattle.std.proofs.lemmas.Bool.{lt-ltb}
use Rattle.std.proofs.lemmas.Option.{slice_get_past}
use Rattle.asm_core.specs.Function.{bit, shift_count, value_of}
use Rattle.asm_core.specs.MicroOps.{input_of, op_value, values_from, values_of, any_value, is_zero, is_set, is_jump, is_stay, is_turn, is_divide, is_over, divides, next_of, arg_at, read_arg, read_in}
use Rattle.asm_core.specs.Reading.Placed.{operand_at, inst_under}
use Rattle.asm_core.specs.Entries.{origin_rank, input_origin, named_alone, no_fact, fact_in, fact_for, is_sure, value_if_known, known_from, names_of_three, picked, fact_joined, op_fact, facts_from, facts_of, names_where, is_control, known_number, known_in}
use Rattle.asm_core.specs.RowLaws.{AgreesOn, Knows, NamesDecide, ReadsKnown}
use Rattle.asm_core.specs.declared.inst.Width.{Width}
use Rattle.asm_core.specs.declared.sym.Arg.{Arg}
use Rattle.asm_core.specs.declared.sym.Sym.{Sym}
use Rattle.asm_core.specs.declared.placement.Placement.{Placement}
use Rattle.asm_core.specs.declared.machine.Machine.{Machine}
use Rattle.asm_core.specs.declared.micro_op.Bytes.{Bytes}
use Rattle.asm_core.specs.declared.micro_op.Site.{Site}
use Rattle.asm_core.specs.declared.micro_op.Input.{Input}
use Rattle.asm_core.specs.declared.micro_op.Origin.{Origin}
use Rattle.asm_core.specs.declared.micro_op.Function.{Function}
use Rattle.asm_core.specs.declared.micro_op.MicroOp.{MicroOp}
use Rattle.asm_core.specs.declared.micro_op.Target.{Target}
use Rattle.asm_core.specs.declared.micro_op.Fact.{Fact}

-- a bit of either number is one of both together
pub or_left : (a b i : ℕ) → bit_at a i ≡ 1 → bit_at (bit_or a b) i ≡ 1
or_left a b i h = let e = bit_at_or a b i in let small = bit_at-lt b i in omega arith

pub or_right : (a b i : ℕ) → bit_at b i ≡ 1 → bit_at (bit_or a b) i ≡ 1
or_right a b i h = let e = bit_at_or a b i in let small = bit_at-lt a i in omega arith

abbrev turned : Bool → ℕ → ℕ
turned zero_count n = if zero_count then 1 else if n == 0 then 0 else 1

turns_by_less : (a : ℕ) → turned (shift_count a == 0) (shift_count a % 32) ≡ 1
turns_by_less a = by_test (shift_count a == 0) refl
  where
    again : a % 32 % 32 ≡ a % 32
    again = omega arith

    by_test : (t : Bool) → (shift_count a == 0) ≡ t → turned t (shift_count a % 32) ≡ 1
    by_test true e = refl
    by_test false e = ap (turned false) again ∙ ap (λ (t : Bool). if t then 0 else 1) e

-- what is true of every count
sure_value : (f : Function) (w : Width) (a b c : ℕ) → is_sure f w ≡ true → value_of f w a b c ≡ 1
sure_value Function.CountBelowWidth Width.L a b c h = ap bit (lt-ltb (a % 32) 32 (omega arith))
sure_value Function.CountTurns Width.L a b c h = turns_by_less a
sure_value f w a b c h = cc

module _ (w : Width) (env env' : Input → ℕ) where
  -- who agrees on more, agrees on less
  pub agrees_left : (a b : ℕ) → AgreesOn w env env' (bit_or a b) → AgreesOn w env env' a
  agrees_left a b h = record { same = λ x o is named. h.same x o is (or_left a b (origin_rank o) named) }

  pub agrees_right : (a b : ℕ) → AgreesOn w env env' (bit_or a b) → AgreesOn w env env' b
  agrees_right a b h = record { same = λ x o is named. h.same x o is (or_right a b (origin_rank o) named) }

  pub agrees_less : (small big : ℕ) → ((r : ℕ) → bit_at small r ≡ 1 → bit_at big r ≡ 1) → AgreesOn w env env' big → AgreesOn w env env' small
  agrees_less small big more h = record { same = λ x o is named. h.same x o is (more (origin_rank o) named) }

  -- the fact is true of both values
  pub record IsSound (f : Fact) (v v' : ℕ) : Type 0 where
    pub same : AgreesOn w env env' f.names → v ≡ v'
    pub left : (n : ℕ) → f.known ≡ Some n → v ≡ n
    pub right : (n : ℕ) → f.known ≡ Some n → v' ≡ n

  abbrev pub AreSound : List Fact → List ℕ → List ℕ → Type 0
  AreSound [] [] [] = Unit {0}
  AreSound (f ∷ fs) (v ∷ vs) (v' ∷ vs') = IsSound f v v' × AreSound fs vs vs'
  AreSound fs vs vs' = ⊥

  none_sound : IsSound no_fact 0 0
  none_sound = record { same = λ h. refl; left = λ n e. cc; right = λ n e. cc }

  pub sound_at : (fs : List Fact) (vs vs' : List ℕ) (k : ℕ) → AreSound fs vs vs' → IsSound (fact_in fs k) (slice_index vs k) (slice_index vs' k)
  sound_at [] [] [] k h = none_sound
  sound_at (f ∷ fs) (v ∷ vs) (v' ∷ vs') zero h = h.0
  sound_at (f ∷ fs) (v ∷ vs) (v' ∷ vs') (suc k) h = sound_at fs vs vs' k h.1
  sound_at [] [] (v' ∷ vs') k h = absurd h
  sound_at [] (v ∷ vs) vs' k h = absurd h
  sound_at (f ∷ fs) [] vs' k h = absurd h
  sound_at (f ∷ fs) (v ∷ vs) [] k h = absurd h

  sound_more : (fs : List Fact) (vs vs' : List ℕ) (f : Fact) (v v' : ℕ) → AreSound fs vs vs' → IsSound f v v' → AreSound (fs ++ f ∷ []) (vs ++ v ∷ []) (vs' ++ v' ∷ [])
  sound_more [] [] [] f v v' h one = (one, tt)
  sound_more (g ∷ fs) (u ∷ vs) (u' ∷ vs') f v v' h one = (h.0, sound_more fs vs vs' f v v' h.1 one)
  sound_more [] [] (u' ∷ vs') f v v' h one = absurd h
  sound_more [] (u ∷ vs) vs' f v v' h one = absurd h
  sound_more (g ∷ fs) [] vs' f v v' h one = absurd h
  sound_more (g ∷ fs) (u ∷ vs) [] f v v' h one = absurd h

  -- ---- an input

  module _ (known : Input → Option ℕ) (knows : Knows known env) (knows' : Knows known env') where
    read_sound : (x : Input) (o : Origin) → input_origin w x ≡ Some o → IsSound (record { known = known x; names = named_alone (input_origin w x) }) (env x) (env' x)
    read_sound x o is = record {
      same = λ h. h.same x o is (ap (λ (p : Option Origin). bit_at (named_alone p) (origin_rank o)) is ∙ bit_at-pow_same (origin_rank o));
      left = λ n e. knows.is x n e;
      right = λ n e. knows'.is x n e;
    }

    input_sound : (fs : List Fact) (vs vs' : List ℕ) (x : Input) → AreSound fs vs vs' → IsSound (fact_for w known fs x) (input_of env vs x) (input_of env' vs' x)
    input_sound fs vs vs' (Input.Earlier k) h = sound_at fs vs vs' k h
    input_sound fs vs vs' (Input.Number n) h = record { same = λ a. refl; left = λ k e. cc; right = λ k e. cc }
    input_sound fs vs vs' (Input.Read site) h = read_sound (Input.Read site) _ refl
    input_sound fs vs vs' (Input.Kept site) h = read_sound (Input.Kept site) _ refl
    input_sound fs vs vs' (Input.Address k) h = read_sound (Input.Address k) _ refl
    input_sound fs vs vs' Input.Top h = read_sound Input.Top _ refl
    input_sound fs vs vs' (Input.Undefined n) h = read_sound (Input.Undefined n) _ refl
    input_sound fs vs vs' (Input.Outside k) h = read_sound (Input.Outside k) _ refl

    -- ---- a function

    known_value : (f : Function) (x y z : Option ℕ) (a b c n : ℕ) → ((k : ℕ) → x ≡ Some k → a ≡ k) → ((k : ℕ) → y ≡ Some k → b ≡ k) → ((k : ℕ) → z ≡ Some k → c ≡ k)
        → known_from f w x y z ≡ Some n → value_of f w a b c ≡ n
    known_value f x y z a b c n is_x is_y is_z e = by_sure (is_sure f w) refl e
      where
        by_known : (x y z : Option ℕ) → ((k : ℕ) → x ≡ Some k → a ≡ k) → ((k : ℕ) → y ≡ Some k → b ≡ k) → ((k : ℕ) → z ≡ Some k → c ≡ k) → value_if_known f w x y z ≡ Some n → value_of f w a b c ≡ n
        by_known (Some i) (Some j) (Some k) is_x is_y is_z e =
            let at_a : a ≡ i = is_x i refl in let at_b : b ≡ j = is_y j refl in let at_c : c ≡ k = is_z k refl in let gives : value_of f w i j k ≡ n = cc in cc
        by_known None y z is_x is_y is_z e = cc
        by_known (Some i) None z is_x is_y is_z e = cc
        by_known (Some i) (Some j) None is_x is_y is_z e = cc

        by_sure : (sure : Bool) → is_sure f w ≡ sure → (if sure then Some 1 else value_if_known f w x y z) ≡ Some n → value_of f w a b c ≡ n
        by_sure true h e = let one : 1 ≡ n = cc in sure_value f w a b c h ∙ one
        by_sure false h e = by_known x y z is_x is_y is_z e

    value_sound : (f : Function) (x y z : Fact) (a b c a' b' c' : ℕ) → IsSound x a a' → IsSound y b b' → IsSound z c c'
        → IsSound (record { known = known_from f w x.known y.known z.known; names = names_of_three x y z }) (value_of f w a b c) (value_of f w a' b' c')
    value_sound f x y z a b c a' b' c' is_x is_y is_z = record {
      same = λ h.
          let rest = agrees_right x.names (bit_or y.names z.names) h in
          let at_a : a ≡ a' = is_x.same (agrees_left x.names (bit_or y.names z.names) h) in
          let at_b : b ≡ b' = is_y.same (agrees_left y.names z.names rest) in
          let at_c : c ≡ c' = is_z.same (agrees_right y.names z.names rest) in
          cc;
      left = λ n e. known_value f x.known y.known z.known a b c n is_x.left is_y.left is_z.left e;
      right = λ n e. known_value f x.known y.known z.known a' b' c' n is_x.right is_y.right is_z.right e;
    }

    pick_sound : (o : Option ℕ) (x y z : Fact) (a b c a' b' c' : ℕ) → x.known ≡ o → IsSound x a a' → IsSound y b b' → IsSound z c c'
        → IsSound (picked o x y z) (if a == 0 then c else b) (if a' == 0 then c' else b')
    pick_sound None x y z a b c a' b' c' e is_x is_y is_z = record {
      same = (value_sound Function.Pick x y z a b c a' b' c' is_x is_y is_z).same;
      left = λ n k. cc;
      right = λ n k. cc;
    }
    pick_sound (Some n) x y z a b c a' b' c' e is_x is_y is_z =
        let at_a : a ≡ n = is_x.left n e in let at_b : a' ≡ n = is_x.right n e in
        subst (λ i. IsSound (if n == 0 then z else y) (if i == 0 then c else b) (if a' == 0 then c' else b')) (sym at_a)
        (subst (λ i. IsSound (if n == 0 then z else y) (if n == 0 then c else b) (if i == 0 then c' else b')) (sym at_b) (by_test (n == 0)))
      where
        by_test : (t : Bool) → IsSound (if t then z else y) (if t then c else b) (if t then c' else b')
        by_test true = is_z
        by_test false = is_y

    joined_sound : (f : Function) (x y z : Fact) (a b c a' b' c' : ℕ) → IsSound x a a' → IsSound y b b' → IsSound z c c' → IsSound (fact_joined f w x y z) (value_of f w a b c) (value_of f w a' b' c')
    joined_sound Function.Pick x y z a b c a' b' c' is_x is_y is_z = pick_sound x.known x y z a b c a' b' c' refl is_x is_y is_z
    joined_sound f x y z a b c a' b' c' is_x is_y is_z = value_sound f x y z a b c a' b' c' is_x is_y is_z

    -- ---- a row

    op_sound : (op : MicroOp) (fs : List Fact) (vs vs' : List ℕ) → AreSound fs vs vs' → IsSound (op_fact w known fs op) (op_value w env vs op) (op_value w env' vs' op)
    op_sound op fs vs vs' h =
        joined_sound op.function (fact_for w known fs op.x) (fact_for w known fs op.y) (fact_for w known fs op.z) (input_of env vs op.x) (input_of env vs op.y) (input_of env vs op.z)
        (input_of env' vs' op.x) (input_of env' vs' op.y) (input_of env' vs' op.z) (input_sound fs vs vs' op.x h) (input_sound fs vs vs' op.y h) (input_sound fs vs vs' op.z h)

    pub row_sound : (row : List MicroOp) (fs : List Fact) (vs vs' : List ℕ) → AreSound fs vs vs' → AreSound (facts_from w known row fs) (values_from w env row vs) (values_from w env' row vs')
    row_sound [] fs vs vs' h = h
    row_sound (op ∷ row) fs vs vs' h =
        row_sound row (fs ++ op_fact w known fs op ∷ []) (vs ++ op_value w env vs op ∷ []) (vs' ++ op_value w env' vs' op ∷ [])
        (sound_more fs vs vs' (op_fact w known fs op) (op_value w env vs op) (op_value w env' vs' op) h (op_sound op fs vs vs' h))

    -- two readings that agree on what the k-th value names give it one value
    pub named_values : (row : List MicroOp) (k : ℕ) → AgreesOn w env env' (fact_in (facts_of w known row) k).names → slice_index (values_of w env row) k ≡ slice_index (values_of w env' row) k
    named_values row k h = (sound_at (facts_of w known row) (values_of w env row) (values_of w env' row) k (row_sound row [] [] [] tt)).same h

-- ---- what the values with such targets name together

names_kept : (kind : Target → Bool) (ops : List MicroOp) (k : ℕ) (fs : List Fact) (names r : ℕ) → bit_at names r ≡ 1 → bit_at (names_where kind ops k fs names) r ≡ 1
names_kept kind [] k fs names r h = h
names_kept kind (op ∷ ops) k fs names r h = names_kept kind ops (k + 1) fs (if kind op.target then bit_or names (fact_in fs k).names else names) r (by_test (kind op.target))
  where
    by_test : (t : Bool) → bit_at (if t then bit_or names (fact_in fs k).names else names) r ≡ 1
    by_test true = or_left names (fact_in fs k).names r h
    by_test false = h

names_first : (kind : Target → Bool) (op : MicroOp) (ops : List MicroOp) (k : ℕ) (fs : List Fact) (names r : ℕ) → kind op.target ≡ true → bit_at (fact_in fs k).names r ≡ 1
    → bit_at (names_where kind (op ∷ ops) k fs names) r ≡ 1
names_first kind op ops k fs names r is h =
    names_kept kind ops (k + 1) fs (if kind op.target then bit_or names (fact_in fs k).names else names) r
    (ap (λ (t : Bool). bit_at (if t then bit_or names (fact_in fs k).names else names) r) is ∙ or_right names (fact_in fs k).names r h)

module _ (w : Width) (env env' : Input → ℕ) (fs : List Fact) (vs vs' : List ℕ) (decided : (k : ℕ) → AgreesOn w env env' (fact_in fs k).names → slice_index vs k ≡ slice_index vs' k) where
  -- values of a kind are tested alike where the readings agree on what values of a wider kind name
  pub tested_alike : (kind wider : Target → Bool) (test : ℕ → Bool) → ((t : Target) → kind t ≡ true → wider t ≡ true) → (ops : List MicroOp) (k names : ℕ) → AgreesOn w env env' (names_where wider ops k fs names)
      → any_value kind test ops k vs ≡ any_value kind test ops k vs'
  tested_alike kind wider test more [] k names h = refl
  tested_alike kind wider test more (op ∷ ops) k names h =
      ap₂ (λ a b. a || b) (by_kind (kind op.target) refl) (tested_alike kind wider test more ops (k + 1) (if wider op.target then bit_or names (fact_in fs k).names else names) h)
    where
      by_kind : (t : Bool) → kind op.target ≡ t → (t && test (slice_index vs k)) ≡ (t && test (slice_index vs' k))
      by_kind false e = refl
      by_kind true e =
          ap test (decided k (agrees_less w env env' (fact_in fs k).names (names_where wider (op ∷ ops) k fs names) (λ r named. names_first wider op ops k fs names r (more op.target e) named) h))

jump_is_control : (t : Target) → is_jump t ≡ true → is_control t ≡ true
jump_is_control Target.Jump e = refl
jump_is_control t e = cc

stay_is_control : (t : Target) → is_stay t ≡ true → is_control t ≡ true
stay_is_control Target.Stay e = refl
stay_is_control t e = cc

turn_is_control : (t : Target) → is_turn t ≡ true → is_control t ≡ true
turn_is_control Target.Turn e = refl
turn_is_control t e = cc

divide_is_control : (t : Target) → is_divide t ≡ true → is_control t ≡ true
divide_is_control Target.Divide e = refl
divide_is_control t e = cc

-- the second law, and the sixth: they hold of any row and any two readings
pub names_decide : (row : List MicroOp) (w : Width) (known : Input → Option ℕ) → NamesDecide row w known
names_decide row w known = record { values = λ env env' k knows knows' h. named_values w env env' known knows knows' row k h; ends = ends }
  where
    ends : (env env' : Input → ℕ) → Knows known env → Knows known env' → AgreesOn w env env' (names_where is_control row 0 (facts_of w known row) 0)
        → (is_over row (values_of w env row) ≡ is_over row (values_of w env' row))
        × (divides row (values_of w env row) ≡ divides row (values_of w env' row))
        × ((goal at : ℕ) → next_of row (values_of w env row) goal at ≡ next_of row (values_of w env' row) goal at)
    ends env env' knows knows' h =
        let alike : (kind : Target → Bool) (test : ℕ → Bool) → ((t : Target) → kind t ≡ true → is_control t ≡ true) → any_value kind test row 0 (values_of w env row) ≡ any_value kind test row 0 (values_of w env' row) =
        λ kind test more. tested_alike w env env' (facts_of w known row) (values_of w env row) (values_of w env' row) (λ k a. named_values w env env' known knows knows' row k a) kind is_control test more row 0 0 h in (
          alike is_turn is_zero turn_is_control,
          alike is_divide is_set divide_is_control,
          λ goal at. ap₂ (λ (jump stay : Bool). if jump then goal else if stay then at else at + 1) (alike is_jump is_set jump_is_control) (alike is_stay is_set stay_is_control),
        )

-- a line's numbers are read as they are known
pub reads_known : (p : Placement) (s : Sym) → length s.args ≤ 3 → ReadsKnown p s
reads_known p s few = record { each = λ choice words m. record { is = is choice words m } }
  where
    by_arg : (m : Machine) (bytes : Bytes) (o : Option Arg) (n : ℕ) → known_number s.width bytes o ≡ Some n → read_arg s.width bytes (operand_at p o) m ≡ n
    by_arg m bytes (Some (Arg.Number z)) n e = cc
    by_arg m bytes o n e = cc

    at_arg : (m : Machine) (k : ℕ) (bytes : Bytes) (n : ℕ) → known_number s.width bytes (slice_get s.args k) ≡ Some n → read_arg s.width bytes (arg_at (inst_under p s) k) m ≡ n
    at_arg m zero bytes n e = by_arg m bytes (slice_get s.args 0) n e
    at_arg m (suc zero) bytes n e = by_arg m bytes (slice_get s.args 1) n e
    at_arg m (suc (suc zero)) bytes n e = by_arg m bytes (slice_get s.args 2) n e
    at_arg m (suc (suc (suc k))) bytes n e = let none : slice_get s.args (suc (suc (suc k))) ≡ None = slice_get_past s.args (suc (suc (suc k))) (omega arith) in cc (ap (known_number s.width bytes) none)

    is : (choice : ℕ) (words : List ℕ) (m : Machine) (x : Input) (n : ℕ) → known_in s x ≡ Some n → read_in (inst_under p s) choice words m x ≡ n
    is choice words m (Input.Read (Site.Argument k bytes)) n e = at_arg m k bytes n e
    is choice words m (Input.Kept (Site.Argument k bytes)) n e = at_arg m k bytes n e
    is choice words m x n e = cc
