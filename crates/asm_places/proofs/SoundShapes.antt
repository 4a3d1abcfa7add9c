-- Each shape of an interface is sound.
use Rattle.std.proofs.Common.{◌≡◌, inl, inr, ℕ, [], ◌∷◌, ◌++◌, Bool, true, false, not, Option, None, Some, is_some, slice_get, refl, sym, ap, subst, ◌∙◌, ◌==◌, ◌||◌, if◌then◌else◌}
use Rattle.asm_core.specs.Lists.{IsMember}
use Rattle.asm_core.specs.Placement.{HasOperand}
use Rattle.asm_core.specs.Shape.{letter_kinds, shapes_of}
use Rattle.asm_core.specs.WellFormed.{IsInterface}
use Rattle.asm_core.proofs.ShapeLaws.{IsKindFor, IsShape, is_shape}
use Rattle.asm_core.specs.declared.shape.Kind.{Kind}
use Rattle.asm_core.specs.declared.shape.Kind.TheVariants.{Register, Memory, Number}
use Rattle.asm_core.specs.declared.shape.Shape.{Shape}
use Rattle.asm_core.specs.declared.interface.AltIface.{AltIface}
use Rattle.asm_core.specs.declared.interface.OperandIface.{OperandIface}
use Rattle.asm_core.specs.declared.interface.Interface.{Interface}
use Rattle.asm_places.proofs.Sound.{IsAtShape, IsTied, IsRange, IsSound}

number_letter : (b c d : Bool) → IsMember Number ((if b then Register ∷ [] else []) ++ (if c then Memory ∷ [] else []) ++ (if d then Number ∷ [] else [])) → d ≡ true
number_letter b c true m = refl
number_letter true true false m = elim m [ inl e ↦ cc | inr n ↦ elim n [ inl e ↦ cc | inr o ↦ absurd o ] ]
number_letter true false false m = elim m [ inl e ↦ cc | inr n ↦ absurd n ]
number_letter false true false m = elim m [ inl e ↦ cc | inr n ↦ absurd n ]
number_letter false false false m = absurd m

some_numbers : {A : Type 0} (o : Option A) → is_some o ≡ true → (x : A) × (o ≡ Some x)
some_numbers None h = cc
some_numbers (Some x) h = (x, refl)

-- ---- each shape of an interface is sound

module _ (i : Interface) (s : Shape) (interface : IsInterface i) (shape : IsShape i s) where
  kind_at : (k : ℕ) (o : OperandIface) (alt : AltIface) (kind : Kind) → HasOperand i s k o alt kind → IsKindFor s.kinds k alt
  kind_at k o alt kind has =
      let in_shape = shape.each k o has.is_operand in
      let same : in_shape.allowed ≡ alt = (let both : Some in_shape.allowed ≡ Some alt = sym in_shape.is_allowed ∙ has.is_alternative in cc) in
      subst (IsKindFor s.kinds k) same in_shape.kind

  at_shape : (k : ℕ) (o : OperandIface) → slice_get i.operands k ≡ Some o → IsAtShape i s k o
  at_shape k o is =
      let in_shape = shape.each k o is in
      record { allowed = in_shape.allowed; kind = in_shape.kind.kind; has = record { is_operand = is; is_alternative = in_shape.is_allowed; is_kind = in_shape.kind.here } }

  same_kind : (k : ℕ) (o : OperandIface) (alt : AltIface) (kind : Kind) → HasOperand i s k o alt kind → (f : IsKindFor s.kinds k alt) → f.kind ≡ kind
  same_kind k o alt kind has f = let both : Some f.kind ≡ Some kind = sym f.here ∙ has.is_kind in cc

  ties : (k output : ℕ) (o : OperandIface) (alt : AltIface) (kind : Kind) → HasOperand i s k o alt kind → alt.tied ≡ Some output → IsTied i s k output o kind
  ties k output o alt kind has tied =
      let t = interface.ties k s.alternative output o alt (record { is_operand = has.is_operand; is_alternative = has.is_alternative }) tied in
      let f = kind_at k o alt kind has in
      record {
        before = t.before;
        operand = t.to.operand;
        allowed = t.to.alternative;
        has = record { is_operand = t.to.is_there.is_operand; is_alternative = t.to.is_there.is_alternative; is_kind = f.tied output tied ∙ ap (λ (x : Kind). Some x) (same_kind k o alt kind has f) };
        untied = t.to.untied;
        input_alone = t.input_alone;
      }

  numbers : (k : ℕ) (o : OperandIface) (alt : AltIface) → HasOperand i s k o alt Number → alt.tied ≡ None → IsRange o alt
  numbers k o alt has untied =
      let f = kind_at k o alt Number has in
      let member : IsMember Number (letter_kinds alt) = subst (λ x. IsMember x (letter_kinds alt)) (same_kind k o alt Number has f) (f.untied untied) in
      let range = some_numbers alt.numbers (number_letter (alt.pair || not (alt.regs.0 == 0)) alt.mem (is_some alt.numbers) member) in
      record { range = range.0; is_range = range.1; number = interface.numbers k s.alternative o alt range.0 (record { is_operand = has.is_operand; is_alternative = has.is_alternative }) range.1 }

  made_sound : IsSound i s
  made_sound = record {
    few = interface.few;
    each = at_shape;
    ties = ties;
    early = λ k o alt kind has early. interface.early k s.alternative o alt (record { is_operand = has.is_operand; is_alternative = has.is_alternative }) early;
    numbers = numbers;
  }

pub sound : (i : Interface) (s : Shape) → IsInterface i → IsMember s (shapes_of i) → IsSound i s
sound i s interface m = made_sound i s interface (is_shape i s interface m)
