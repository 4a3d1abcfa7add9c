-- A repeated instruction that is over leaves what stood at each of its writes, as the values of its row say.
use Rattle.std.proofs.Common.{◌≡◌, ℕ, zero, suc, ◌+◌, ◌==◌, ◌<◌, ◌&&◌, ◌||◌, List, [], ◌∷◌, ◌++◌, map, length, slice_get, slice_index, Bool, true, false, if◌then◌else◌, Some, refl, ap, sym, subst, ◌∙◌, arith}
use Rattle.std.proofs.lemmas.Bool.{eqb-true}
use Rattle.std.proofs.lemmas.List.{append_assoc, append-nil, length-append, get_or_append_left, get_or-append-add}
use Rattle.asm_core.specs.Entries.{is_write}
use Rattle.asm_core.specs.MicroOps.{input_of, op_value, values_from, values_of, is_zero, is_turn, any_value, is_over}
use Rattle.asm_core.specs.RowTerms.{op1, op2, op3, reg, to_reg, as_temporary, guarded_op, guarded, turn_of}
use Rattle.asm_core.specs.declared.reg.Reg.{Reg}
use Rattle.asm_core.specs.declared.inst.Width.{Width}
use Rattle.asm_core.specs.declared.micro_op.Bytes.{Bytes}
use Rattle.asm_core.specs.declared.micro_op.Site.{Site}
use Rattle.asm_core.specs.declared.micro_op.Input.{Input}
use Rattle.asm_core.specs.declared.micro_op.Target.{Target}
use Rattle.asm_core.specs.declared.micro_op.Function.{Function}
use Rattle.asm_core.specs.declared.micro_op.MicroOp.{MicroOp}

-- ---- values

-- the values of a micro-operation's row before it are those that it is computed from
module _ (w : Width) (env : Input → ℕ) where
  extended : (row : List MicroOp) (vs : List ℕ) → (us : List ℕ) × (values_from w env row vs ≡ vs ++ us)
  extended [] vs = ([], sym (append-nil vs))
  extended (op ∷ row) vs =
      let rest = extended row (vs ++ op_value w env vs op ∷ []) in
      (op_value w env vs op ∷ rest.0, rest.1 ∙ append_assoc vs (op_value w env vs op ∷ []) rest.0)

  record IsFrom (row : List MicroOp) (vs : List ℕ) (k : ℕ) (op : MicroOp) : Type 0 where
    before : List ℕ
    value : slice_index (values_from w env row vs) (length vs + k) ≡ op_value w env before op
    same : (j : ℕ) → j < length vs + k → slice_index before j ≡ slice_index (values_from w env row vs) j

  is_from : (row : List MicroOp) (vs : List ℕ) (k : ℕ) (op : MicroOp) → slice_get row k ≡ Some op → IsFrom row vs k op
  is_from [] vs k op at = cc
  is_from (first ∷ row) vs zero op at =
      let is_first : first ≡ op = cc in
      let rest = extended (first ∷ row) vs in
      let more = extended row (vs ++ op_value w env vs first ∷ []) in
      record {
        before = vs;
        value = ap (λ us. slice_index us (length vs + 0)) (more.1 ∙ append_assoc vs (op_value w env vs first ∷ []) more.0) ∙ get_or-append-add vs (op_value w env vs first ∷ more.0) 0 0 ∙ ap (op_value w env vs) is_first;
        same = λ j small. sym (ap (λ us. slice_index us j) rest.1 ∙ get_or_append_left vs rest.0 0 j (omega arith));
      }
  is_from (first ∷ row) vs (suc k) op at =
      let rest = is_from row (vs ++ op_value w env vs first ∷ []) k op at in
      let here : length vs + suc k ≡ length (vs ++ op_value w env vs first ∷ []) + k = next (length-append vs (op_value w env vs first ∷ [])) in
      record {
        before = rest.before;
        value = ap (slice_index (values_from w env row (vs ++ op_value w env vs first ∷ []))) here ∙ rest.value;
        same = λ j small. rest.same j (omega arith);
      }
    where
      next : length (vs ++ op_value w env vs first ∷ []) ≡ length vs + 1 → length vs + suc k ≡ length (vs ++ op_value w env vs first ∷ []) + k
      next e = omega arith

-- ---- the rows of repeated instructions

-- the target gets a value where the value n isn't 0, else keeps its own
pub record Guards (n : ℕ) (op : MicroOp) : Type 0 where
  pub site : Site
  pub value : ℕ
  pub is : op ≡ op3 (Target.Site site) Function.Pick (Input.Earlier n) (Input.Earlier value) (Input.Kept site)

abbrev AllGuard : ℕ → List MicroOp → Type 0
AllGuard n [] = Unit {0}
AllGuard n (op ∷ ops) = (is_write op.target ≡ true → Guards n op) × AllGuard n ops

-- each write of the row comes after the value n and is guarded by it, and the step is over only where that is 0
pub record IsTurnRow (n : ℕ) (row : List MicroOp) : Type 0 where
  pub later : (k : ℕ) (op : MicroOp) → slice_get row k ≡ Some op → is_write op.target ≡ true → n < k
  pub writes : (k : ℕ) (op : MicroOp) → slice_get row k ≡ Some op → is_write op.target ≡ true → Guards n op
  pub over : (vs : List ℕ) → is_over row vs ≡ true → slice_index vs n ≡ 0

guard_at : (n : ℕ) (row : List MicroOp) (k : ℕ) (op : MicroOp) → AllGuard n row → slice_get row k ≡ Some op → is_write op.target ≡ true → Guards n op
guard_at n [] k op all at = cc
guard_at n (first ∷ row) zero op all at = let same : first ≡ op = cc in subst (λ (x : MicroOp). is_write x.target ≡ true → Guards n x) same all.0
guard_at n (first ∷ row) (suc k) op all at = guard_at n row k op all.1 at

temporaries_guard : (n : ℕ) (row rest : List MicroOp) → AllGuard n rest → AllGuard n (map as_temporary row ++ rest)
temporaries_guard n [] rest h = h
temporaries_guard n (op ∷ row) rest h = (λ write. cc, temporaries_guard n row rest h)

guarded_guard : (n k : ℕ) (row rest : List MicroOp) → AllGuard n rest → AllGuard n (guarded n k row ++ rest)
guarded_guard n k [] rest h = h
guarded_guard n k (op ∷ row) rest h = by_target op.target (guarded_guard n (k + 1) row rest h)
  where
    by_target : (t : Target) → AllGuard n (guarded n (k + 1) row ++ rest) → AllGuard n (guarded_op n k t (guarded n (k + 1) row) ++ rest)
    by_target (Target.Site site) h = (λ write. record { site = site; value = k; is = refl }, h)
    by_target t h = h

writes_later : (row rest : List MicroOp) (turn : MicroOp) → is_write turn.target ≡ false → (k : ℕ) (op : MicroOp) → slice_get (map as_temporary row ++ turn ∷ rest) k ≡ Some op → is_write op.target ≡ true → length row < k
writes_later [] rest turn none zero op at write = let same : turn ≡ op = cc in absurd (both (subst (λ (x : MicroOp). is_write x.target ≡ false) same none) write)
  where
    both : is_write op.target ≡ false → is_write op.target ≡ true → ⊥
    both e f = cc
writes_later [] rest turn none (suc k) op at write = omega arith
writes_later (first ∷ row) rest turn none zero op at write = let same : as_temporary first ≡ op = cc in absurd (never (subst (λ (x : MicroOp). is_write x.target ≡ true) (sym same) write))
  where
    never : false ≡ true → ⊥
    never e = cc
writes_later (first ∷ row) rest turn none (suc k) op at write = let earlier = writes_later row rest turn none k op at write in omega arith

temporaries_go_on : (row rest : List MicroOp) (j : ℕ) (vs : List ℕ) → any_value is_turn is_zero (map as_temporary row ++ rest) j vs ≡ any_value is_turn is_zero rest (j + length row) vs
temporaries_go_on [] rest j vs = ap (λ n. any_value is_turn is_zero rest n vs) (none j)
  where
    none : (j : ℕ) → j ≡ j + 0
    none j = omega arith
temporaries_go_on (op ∷ row) rest j vs = temporaries_go_on row rest (j + 1) vs ∙ ap (λ n. any_value is_turn is_zero rest n vs) (next j (length row))
  where
    next : (j n : ℕ) → j + 1 + n ≡ j + suc n
    next j n = omega arith

guarded_go_on : (n k : ℕ) (row rest : List MicroOp) (vs : List ℕ) → ((j : ℕ) → any_value is_turn is_zero rest j vs ≡ false) → (j : ℕ) → any_value is_turn is_zero (guarded n k row ++ rest) j vs ≡ false
guarded_go_on n k [] rest vs h = h
guarded_go_on n k (op ∷ row) rest vs h = by_target op.target (guarded_go_on n (k + 1) row rest vs h)
  where
    by_target : (t : Target) → ((j : ℕ) → any_value is_turn is_zero (guarded n (k + 1) row ++ rest) j vs ≡ false) → (j : ℕ) → any_value is_turn is_zero (guarded_op n k t (guarded n (k + 1) row) ++ rest) j vs ≡ false
    by_target (Target.Site site) h j = h (j + 1)
    by_target t h j = h j

abbrev turn_op : Input → MicroOp
turn_op compared = op2 Target.Turn Function.Value (reg Reg.Ecx Bytes.All) compared

abbrev count_op : MicroOp
count_op = op1 Target.Temporary Function.CountDown (reg Reg.Ecx Bytes.All)

abbrev ecx_op : ℕ → MicroOp
ecx_op n = op3 (to_reg Reg.Ecx Bytes.All) Function.Pick (Input.Earlier n) (Input.Earlier (n + 1)) (Input.Kept (Site.Register Reg.Ecx Bytes.All))

-- a turn's row from the front
abbrev flat : Input → MicroOp → List MicroOp → List MicroOp
flat compared stay row = map as_temporary row ++ (turn_op compared ∷ count_op ∷ (guarded (length row) 0 row ++ (ecx_op (length row) ∷ stay ∷ [])))

is_flat : (compared : Input) (stay : MicroOp) (row : List MicroOp) → turn_of compared stay row ≡ flat compared stay row
is_flat compared stay row =
    append_assoc (map as_temporary row ++ turn_op compared ∷ [] ++ count_op ∷ [] ++ guarded (length row) 0 row) (ecx_op (length row) ∷ []) (stay ∷ [])
    ∙ append_assoc (map as_temporary row ++ turn_op compared ∷ [] ++ count_op ∷ []) (guarded (length row) 0 row) (ecx_op (length row) ∷ stay ∷ [])
    ∙ append_assoc (map as_temporary row ++ turn_op compared ∷ []) (count_op ∷ []) (guarded (length row) 0 row ++ (ecx_op (length row) ∷ stay ∷ []))
    ∙ append_assoc (map as_temporary row) (turn_op compared ∷ []) (count_op ∷ (guarded (length row) 0 row ++ (ecx_op (length row) ∷ stay ∷ [])))

zero_of : (v : ℕ) (rest : Bool) → rest ≡ false → (is_zero v || rest) ≡ true → v ≡ 0
zero_of v rest none h = eqb-true v 0 (sym (or_false (v == 0)) ∙ ap (λ t. v == 0 || t) (sym none) ∙ h)
  where
    or_false : (t : Bool) → (t || false) ≡ t
    or_false true = refl
    or_false false = refl

pub turn_row : (compared : Input) (stay : MicroOp) (row : List MicroOp) → is_write stay.target ≡ false → is_turn stay.target ≡ false → IsTurnRow (length row) (turn_of compared stay row)
turn_row compared stay row no_write no_turn = subst (IsTurnRow (length row)) (sym (is_flat compared stay row)) (record {
  later = writes_later row (count_op ∷ (guarded (length row) 0 row ++ (ecx_op (length row) ∷ stay ∷ []))) (turn_op compared) refl;
  writes = λ k op at. guard_at (length row) (flat compared stay row) k op all at;
  over = λ vs h. zero_of (slice_index vs (length row)) (any_value is_turn is_zero (guarded (length row) 0 row ++ (ecx_op (length row) ∷ stay ∷ [])) (length row + 1 + 1) vs)
      (guarded_go_on (length row) 0 row (ecx_op (length row) ∷ stay ∷ []) vs (λ j. last j vs) (length row + 1 + 1))
      (sym (temporaries_go_on row (turn_op compared ∷ count_op ∷ (guarded (length row) 0 row ++ (ecx_op (length row) ∷ stay ∷ []))) 0 vs ∙ at_start vs) ∙ h);
})
  where
    all : AllGuard (length row) (flat compared stay row)
    all = temporaries_guard (length row) row (turn_op compared ∷ count_op ∷ (guarded (length row) 0 row ++ (ecx_op (length row) ∷ stay ∷ [])))
        (λ write. cc, (λ write. cc, guarded_guard (length row) 0 row (ecx_op (length row) ∷ stay ∷ []) (λ write. record { site = Site.Register Reg.Ecx Bytes.All; value = length row + 1; is = refl }, (λ write. cc, tt))))

    last : (j : ℕ) (vs : List ℕ) → any_value is_turn is_zero (ecx_op (length row) ∷ stay ∷ []) j vs ≡ false
    last j vs = ap (λ t. t && is_zero (slice_index vs (j + 1)) || false) no_turn

    at_start : (vs : List ℕ) → any_value is_turn is_zero (turn_op compared ∷ count_op ∷ (guarded (length row) 0 row ++ (ecx_op (length row) ∷ stay ∷ []))) (0 + length row) vs
        ≡ (is_zero (slice_index vs (length row)) || any_value is_turn is_zero (guarded (length row) 0 row ++ (ecx_op (length row) ∷ stay ∷ [])) (length row + 1 + 1) vs)
    at_start vs = ap (λ n. any_value is_turn is_zero (turn_op compared ∷ count_op ∷ (guarded (length row) 0 row ++ (ecx_op (length row) ∷ stay ∷ []))) n vs) none
      where
        none : 0 + length row ≡ length row
        none = omega arith

-- ---- what a guarded write keeps

-- where the value n is 0, a later one that it guards is what stood at its site
pub kept_value : (w : Width) (env : Input → ℕ) (row : List MicroOp) (n k : ℕ) (op : MicroOp) (guards : Guards n op) → slice_get row k ≡ Some op → n < k → slice_index (values_of w env row) n ≡ 0
    → slice_index (values_of w env row) k ≡ env (Input.Kept guards.site)
kept_value w env row n k op guards at later none =
    let found = is_from w env row [] k op at in
    let zero_here : slice_index found.before n ≡ 0 = found.same n (omega arith) ∙ none in
    ap (slice_index (values_of w env row)) from_start ∙ found.value ∙ ap (op_value w env found.before) guards.is
    ∙ ap (λ v. if v == 0 then env (Input.Kept guards.site) else slice_index found.before guards.value) zero_here
  where
    from_start : k ≡ 0 + k
    from_start = omega arith

-- where the first value is 0, a later choice by it is its last input
pub picked_last : (w : Width) (env : Input → ℕ) (row : List MicroOp) (k : ℕ) (to : Target) (value : Input) (site : Site) → slice_get row k ≡ Some (op3 to Function.Pick (Input.Earlier 0) value (Input.Read site)) → 0 < k
    → slice_index (values_of w env row) 0 ≡ 0 → slice_index (values_of w env row) k ≡ env (Input.Read site)
picked_last w env row k to value site at later none =
    let found = is_from w env row [] k (op3 to Function.Pick (Input.Earlier 0) value (Input.Read site)) at in
    let zero_here : slice_index found.before 0 ≡ 0 = found.same 0 (omega arith) ∙ none in
    ap (slice_index (values_of w env row)) from_start ∙ found.value ∙ ap (λ v. if v == 0 then env (Input.Read site) else input_of env found.before value) zero_here
  where
    from_start : k ≡ 0 + k
    from_start = omega arith
