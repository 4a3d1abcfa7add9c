-- Operands in a shape.
use Rattle.std.proofs.Common.{◌≡◌, [], ◌∷◌, zero, suc, ℕ, ◌<◌, ◌==◌, true, List, length, Option, None, Some, slice_get, refl, ap, ◌∙◌, arith}
use Rattle.std.proofs.lemmas.Bool.{and_parts, and_from, eqb-true, eq-eqb}
use Rattle.asm_core.specs.Placement.{HasOperand, tie_root, is_input}
use Rattle.asm_core.specs.declared.shape.Kind.{Kind}
use Rattle.asm_core.specs.declared.shape.Shape.{Shape}
use Rattle.asm_core.specs.declared.interface.AltIface.{AltIface}
use Rattle.asm_core.specs.declared.interface.OperandIface.{OperandIface}
use Rattle.asm_core.specs.declared.interface.Interface.{Interface}
use Rattle.asm_places.specs.Operand.{operand_in, shaped, shaped_at, is_input_at, is_input_to, holds_input}
use Rattle.asm_places.specs.declared.operand.ShapedOperand.{ShapedOperand}
use Rattle.register_search.proofs.Placing.{some_of, some_from}

-- an operand of the interface as it is in the shape
abbrev pub in_shape : OperandIface → AltIface → Kind → ShapedOperand
in_shape o alt kind = record { role = o.role; known = o.known; allowed = alt; kind = kind }

pub operand_is : (i : Interface) (s : Shape) (k : ℕ) (o : OperandIface) (alt : AltIface) (kind : Kind) → HasOperand i s k o alt kind → operand_in i s k ≡ Some (in_shape o alt kind)
operand_is i s k o alt kind h =
    ap (λ x. shaped_at x s k) h.is_operand ∙ ap (λ x. shaped o x (slice_get s.kinds k)) h.is_alternative ∙ ap (shaped o (Some alt)) h.is_kind

-- the operand that is read
pub record IsShaped (i : Interface) (s : Shape) (k : ℕ) (x : ShapedOperand) : Type 0 where
  pub operand : OperandIface
  pub has : HasOperand i s k operand x.allowed x.kind
  pub role : operand.role ≡ x.role
  pub known : operand.known ≡ x.known

shaped_from : (i : Interface) (s : Shape) (k : ℕ) (o : OperandIface) (x : ShapedOperand) (a : Option AltIface) (d : Option Kind) → slice_get i.operands k ≡ Some o
    → slice_get o.alts s.alternative ≡ a → slice_get s.kinds k ≡ d → shaped o a d ≡ Some x → IsShaped i s k x
shaped_from i s k o x None d is e f h = cc
shaped_from i s k o x (Some alt) None is e f h = cc
shaped_from i s k o x (Some alt) (Some kind) is e f h =
    let same : in_shape o alt kind ≡ x = cc in
    let allowed : alt ≡ x.allowed = ap (λ (y : ShapedOperand). y.allowed) same in
    let kinds : kind ≡ x.kind = ap (λ (y : ShapedOperand). y.kind) same in
    record {
      operand = o;
      has = record { is_operand = is; is_alternative = e ∙ ap (λ (y : AltIface). Some y) allowed; is_kind = f ∙ ap (λ (y : Kind). Some y) kinds };
      role = ap (λ (y : ShapedOperand). y.role) same;
      known = ap (λ (y : ShapedOperand). y.known) same;
    }

operand_from : (i : Interface) (s : Shape) (k : ℕ) (x : ShapedOperand) (o : Option OperandIface) → slice_get i.operands k ≡ o → shaped_at o s k ≡ Some x → IsShaped i s k x
operand_from i s k x None e h = cc
operand_from i s k x (Some o) e h = shaped_from i s k o x (slice_get o.alts s.alternative) (slice_get s.kinds k) e refl refl h

pub is_shaped : (i : Interface) (s : Shape) (k : ℕ) (x : ShapedOperand) → operand_in i s k ≡ Some x → IsShaped i s k x
is_shaped i s k x h = operand_from i s k x (slice_get i.operands k) refl h

-- the tie of an operand
abbrev root_by : ℕ → Option ℕ → ℕ
root_by k None = k
root_by k (Some output) = output

abbrev root_of : ℕ → Option AltIface → ℕ
root_of k None = k
root_of k (Some alt) = root_by k alt.tied

abbrev root_in : Shape → ℕ → Option OperandIface → ℕ
root_in s k None = k
root_in s k (Some o) = root_of k (slice_get o.alts s.alternative)

root_by_elim : (k : ℕ) (t : Option ℕ) → (elim t [ None ↦ k | Some output ↦ output ]) ≡ root_by k t
root_by_elim k None = refl
root_by_elim k (Some output) = refl

pub untied_root : (i : Interface) (s : Shape) (k : ℕ) (o : OperandIface) (alt : AltIface) → slice_get i.operands k ≡ Some o → slice_get o.alts s.alternative ≡ Some alt → alt.tied ≡ None → tie_root i s k ≡ k
untied_root i s k o alt is_o is_alt untied = simp (is_o, is_alt, untied) refl

pub tied_root : (i : Interface) (s : Shape) (k output : ℕ) (o : OperandIface) (alt : AltIface) → slice_get i.operands k ≡ Some o → slice_get o.alts s.alternative ≡ Some alt → alt.tied ≡ Some output → tie_root i s k ≡ output
tied_root i s k output o alt is_o is_alt tied = simp (is_o, is_alt, tied) refl

pub outside_root : (i : Interface) (s : Shape) (k : ℕ) → slice_get i.operands k ≡ None → tie_root i s k ≡ k
outside_root i s k none = simp none refl

-- ---- inputs

pub record IsInputOf (i : Interface) (s : Shape) (k : ℕ) : Type 0 where
  pub at : ℕ
  pub operand : OperandIface
  pub is_operand : slice_get i.operands at ≡ Some operand
  pub input : is_input operand.role ≡ true
  pub root : tie_root i s at ≡ k

input_at : (i : Interface) (s : Shape) (k t : ℕ) (o : Option OperandIface) → slice_get i.operands t ≡ o → is_input_at o ≡ true → tie_root i s t ≡ k → IsInputOf i s k
input_at i s k t None e h root = cc
input_at i s k t (Some o) e h root = record { at = t; operand = o; is_operand = e; input = h; root = root }

pub input_of : (i : Interface) (s : Shape) (k : ℕ) → holds_input i s k ≡ true → IsInputOf i s k
input_of i s k h =
    let w = some_of (length i.operands) (is_input_to i s k) h in
    let parts = and_parts (is_input_at (slice_get i.operands w.it)) (tie_root i s w.it == k) w.passes in
    input_at i s k w.it (slice_get i.operands w.it) refl parts.0 (eqb-true _ _ parts.1)

pub get_inside : {A : Type 0} (xs : List A) (i : ℕ) (x : A) → slice_get xs i ≡ Some x → i < length xs
get_inside [] i x h = cc
get_inside (y ∷ xs) zero x h = omega arith
get_inside (y ∷ xs) (suc i) x h = let lt = get_inside xs i x h in omega arith

pub holds : (i : Interface) (s : Shape) (k : ℕ) → IsInputOf i s k → holds_input i s k ≡ true
holds i s k h = some_from (length i.operands) (is_input_to i s k) h.at (get_inside i.operands h.at h.operand h.is_operand)
    (and_from _ _ (ap is_input_at h.is_operand ∙ h.input) (eq-eqb (tie_root i s h.at) k h.root))
