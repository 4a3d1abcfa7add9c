-- What the operands of a shape keep, where the interface keeps what every interface does.
use Rattle.std.proofs.Common.{◌≡◌, ℕ, ◌<◌, ◌≤◌, ℤ, true, false, List, [], ◌∷◌, zero, suc, length, Option, None, Some, slice_get, refl, sym, ap, subst, ◌∙◌, arith}
use Rattle.asm_core.specs.Placement.{HasOperand, tie_root, is_output}
use Rattle.asm_core.specs.WellFormed.{HasNumber}
use Rattle.asm_core.specs.declared.shape.Kind.{Kind}
use Rattle.asm_core.specs.declared.shape.Shape.{Shape}
use Rattle.asm_core.specs.declared.interface.AltIface.{AltIface}
use Rattle.asm_core.specs.declared.interface.OperandIface.{OperandIface}
use Rattle.asm_core.specs.declared.interface.Interface.{Interface}
use Rattle.asm_places.proofs.Shaped.{untied_root, tied_root}

-- an operand of the interface has an alternative and a kind in the shape
pub record IsAtShape (i : Interface) (s : Shape) (k : ℕ) (o : OperandIface) : Type 0 where
  pub allowed : AltIface
  pub kind : Kind
  pub has : HasOperand i s k o allowed kind

-- a tied operand has an earlier output of its kind, and is an input alone
pub record IsTied (i : Interface) (s : Shape) (k output : ℕ) (o : OperandIface) (kind : Kind) : Type 0 where
  pub before : output < k
  pub operand : OperandIface
  pub allowed : AltIface
  pub has : HasOperand i s output operand allowed kind
  pub untied : allowed.tied ≡ None
  pub input_alone : is_output o.role ≡ false

pub record IsRange (o : OperandIface) (alt : AltIface) : Type 0 where
  pub range : ℤ × ℤ
  pub is_range : alt.numbers ≡ Some range
  pub number : HasNumber o alt range

pub record IsSound (i : Interface) (s : Shape) : Type 0 where
  pub few : length i.operands ≤ 30
  pub each : (k : ℕ) (o : OperandIface) → slice_get i.operands k ≡ Some o → IsAtShape i s k o
  pub ties : (k output : ℕ) (o : OperandIface) (alt : AltIface) (kind : Kind) → HasOperand i s k o alt kind → alt.tied ≡ Some output → IsTied i s k output o kind
  pub early : (k : ℕ) (o : OperandIface) (alt : AltIface) (kind : Kind) → HasOperand i s k o alt kind → alt.early ≡ true → is_output o.role ≡ true
  pub numbers : (k : ℕ) (o : OperandIface) (alt : AltIface) → HasOperand i s k o alt Kind.Number → alt.tied ≡ None → IsRange o alt

-- the operand where operand k is, not tied itself
pub record IsRoot (i : Interface) (s : Shape) (k : ℕ) : Type 0 where
  pub operand : OperandIface
  pub allowed : AltIface
  pub kind : Kind
  pub has : HasOperand i s (tie_root i s k) operand allowed kind
  pub untied : allowed.tied ≡ None
  pub root : tie_root i s (tie_root i s k) ≡ tie_root i s k
  pub inside : tie_root i s k < 30

inside_of : {A : Type 0} (xs : List A) (i : ℕ) (x : A) → slice_get xs i ≡ Some x → i < length xs
inside_of [] i x h = cc
inside_of (y ∷ xs) zero x h = omega arith
inside_of (y ∷ xs) (suc i) x h = let lt = inside_of xs i x h in omega arith

pub has_inside : (i : Interface) (s : Shape) (k : ℕ) (o : OperandIface) → IsSound i s → slice_get i.operands k ≡ Some o → k < 30
has_inside i s k o sound is = let lt = inside_of i.operands k o is in let few = sound.few in omega arith

root_from : (i : Interface) (s : Shape) (k m : ℕ) (o : OperandIface) (alt : AltIface) (kind : Kind) → IsSound i s → HasOperand i s m o alt kind → alt.tied ≡ None → tie_root i s k ≡ m → IsRoot i s k
root_from i s k m o alt kind sound has untied root = record {
  operand = o;
  allowed = alt;
  kind = kind;
  has = subst (λ n. HasOperand i s n o alt kind) (sym root) has;
  untied = untied;
  root = ap (tie_root i s) root ∙ untied_root i s m o alt has.is_operand has.is_alternative untied ∙ sym root;
  inside = subst (λ n. n < 30) (sym root) (has_inside i s m o sound has.is_operand);
}

pub root_of : (i : Interface) (s : Shape) (k : ℕ) (o : OperandIface) → IsSound i s → slice_get i.operands k ≡ Some o → IsRoot i s k
root_of i s k o sound is = by_tie (sound.each k o is) (sound.each k o is).allowed.tied refl
  where
    by_tie : (a : IsAtShape i s k o) (t : Option ℕ) → a.allowed.tied ≡ t → IsRoot i s k
    by_tie a None e = root_from i s k k o a.allowed a.kind sound a.has e (untied_root i s k o a.allowed a.has.is_operand a.has.is_alternative e)
    by_tie a (Some output) e =
        let t = sound.ties k output o a.allowed a.kind a.has e in
        root_from i s k output t.operand t.allowed a.kind sound t.has t.untied (tied_root i s k output o a.allowed a.has.is_operand a.has.is_alternative e)

-- an output is tied to none
pub output_untied : (i : Interface) (s : Shape) (k : ℕ) (o : OperandIface) (alt : AltIface) (kind : Kind) → IsSound i s → HasOperand i s k o alt kind → is_output o.role ≡ true → alt.tied ≡ None
output_untied i s k o alt kind sound has out = by_tie alt.tied refl
  where
    by_tie : (t : Option ℕ) → alt.tied ≡ t → alt.tied ≡ None
    by_tie None e = e
    by_tie (Some output) e = let t = sound.ties k output o alt kind has e in let wrong : true ≡ false = sym out ∙ t.input_alone in cc
