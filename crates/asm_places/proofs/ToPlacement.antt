-- An assignment of the classes gives a placement.
use Rattle.std.proofs.Common.{◌≡◌, ◌≢◌, ◌⊎◌, inl, inr, ℕ, ◌<◌, ◌==◌, ◌&&◌, not, ℤ, ◌≤ℤ◌, List, [], ◌∷◌, ◌++◌, Bool, true, false, IsTrue, Option, None, Some, slice_get, unwrap_or, refl, sym, ap, subst, ◌∙◌, arith, if◌then◌else◌}
use Rattle.std.specs.Int.{bit_at}
use Rattle.std.proofs.lemmas.Int.{ints}
use Rattle.std.proofs.lemmas.Bool.{and_from, and_parts, or_left, or_right, eqb-true, eq-eqb, not-true, both_ways}
use Rattle.register_search.specs.Assignment.{takes_registers, are_rivals, IsAssignment}
use Rattle.register_search.specs.declared.class.Class.{Class}
use Rattle.register_search.proofs.Sets.{each_choice}
use Rattle.asm_core.specs.Reg.{reg_number, IsIn}
use Rattle.asm_core.specs.Lists.{IsMember, AreApart}
use Rattle.asm_core.specs.WellFormed.{HasNumber}
use Rattle.asm_core.specs.Placement.{spot_of, value_registers, address_registers, input_registers, Fits, IsNumber, HasOperand, IsAllowed, IsRoomy, tie_root, is_output, is_input}
use Rattle.asm_core.specs.declared.reg.Reg.{Reg}
use Rattle.asm_core.specs.declared.reg.Reg.TheVariants.{Eax, Ebx, Ecx, Edx, Esi, Edi, Ebp}
use Rattle.asm_core.specs.declared.reg.RegSet.{RegSet}
use Rattle.asm_core.specs.declared.shape.Kind.{Kind}
use Rattle.asm_core.specs.declared.shape.Kind.TheVariants.{Register, Memory, Number}
use Rattle.asm_core.specs.declared.shape.Shape.{Shape}
use Rattle.asm_core.specs.declared.interface.AltIface.{AltIface}
use Rattle.asm_core.specs.declared.interface.OperandIface.{OperandIface}
use Rattle.asm_core.specs.declared.interface.Interface.{Interface}
use Rattle.asm_core.specs.declared.placement.Spot.{Spot}
use Rattle.asm_core.specs.declared.placement.Placement.{Placement}
use Rattle.asm_places.specs.Operand.{operand_in, holds_input, has_register, takes}
use Rattle.asm_places.specs.Classes.{asked_of, is_wanted, may_be_in, group_for, kind_class, address_class, number_class, AreClasses}
use Rattle.asm_places.specs.Placing.{choice_spot, memory_spot, kind_spot, spot_for, lower_end, IsPlacedBy}
use Rattle.asm_places.specs.declared.goal.Asked.{Asked}
use Rattle.asm_places.specs.declared.goal.Goal.{Goal}
use Rattle.asm_places.specs.declared.goal.Goal.TheVariants.{Room, Use}
use Rattle.asm_places.specs.declared.operand.ShapedOperand.{ShapedOperand}
use Rattle.asm_places.proofs.Shaped.{in_shape, operand_is, IsShaped, is_shaped, untied_root, outside_root, holds}
use Rattle.asm_places.proofs.Choices.{spot_registers, no_common}
use Rattle.asm_places.proofs.Rivals.{rivals_use, rivals_room}
use Rattle.asm_places.proofs.Takers.{address_group, class_of, input_unless, of_choices_at, early_kind, output_kind, input_kind, group_of_kind}
use Rattle.asm_places.proofs.FromPlacement.{takes_itself, in_first, AreUsed}
use Rattle.asm_places.proofs.Sound.{IsSound, root_of, output_untied, has_inside}

-- ---- what a choice allows

out_in : (set : RegSet) (n : ℕ) → has_register set n ≡ true → bit_at set.0 n ≡ 1
out_in set n h = eqb-true _ _ h

out_free : (set : RegSet) (r : Reg) → not (has_register set (reg_number r)) ≡ true → IsIn set r → ⊥
out_free set r h is = both_ways (has_register set (reg_number r)) (not-true _ h) (eq-eqb _ _ is)

-- where a register operand is allowed
abbrev IsFit : Interface → OperandIface → AltIface → ℕ → Type 0
IsFit i o alt choice = may_be_in i alt choice ≡ true → Fits i o alt Register (choice_spot choice)

single_fits : (i : Interface) (o : OperandIface) (alt : AltIface) (r : Reg) → (has_register alt.regs (reg_number r) && not (has_register i.clobbers (reg_number r))) ≡ true → Fits i o alt Register (Spot.Register r)
single_fits i o alt r h = let p = and_parts _ _ h in (out_in alt.regs (reg_number r) p.0, out_free i.clobbers r p.1)

pair_fits : (i : Interface) (o : OperandIface) (alt : AltIface) → (alt.pair && (not (has_register i.clobbers 0) && not (has_register i.clobbers 3))) ≡ true → Fits i o alt Register Spot.Pair
pair_fits i o alt h =
    let p = and_parts _ _ h in
    let q = and_parts _ _ p.1 in (
      p.0,
      λ r m is. elim m [
        | inl e ↦ out_free i.clobbers Eax q.0 (subst (IsIn i.clobbers) e is)
        | inr n ↦ elim n [ inl e ↦ out_free i.clobbers Edx q.1 (subst (IsIn i.clobbers) e is) | inr none ↦ absurd none ]
      ],
    )

choice_fits : (i : Interface) (o : OperandIface) (alt : AltIface) (choice : ℕ) → choice < 8 → IsFit i o alt choice
choice_fits i o alt choice below = each_choice (IsFit i o alt) (single_fits i o alt Eax) (single_fits i o alt Ebx) (single_fits i o alt Ecx) (single_fits i o alt Edx) (single_fits i o alt Esi)
    (single_fits i o alt Edi) (single_fits i o alt Ebp) (pair_fits i o alt) choice below

memory_fits : (i : Interface) (o : OperandIface) (alt : AltIface) (k : ℕ) (a : Option Reg) → k < 30 → ((r : Reg) → a ≡ Some r → IsIn i.clobbers r → ⊥) → Fits i o alt Memory (memory_spot k a)
memory_fits i o alt k None below free = (record { low = omega (arith, ints); high = omega (arith, ints); scale = λ x e. cc }, λ r m is. m)
memory_fits i o alt k (Some q) below free = (
  record { low = omega (arith, ints); high = omega (arith, ints); scale = λ x e. cc },
  λ r m is. elim m [ inl e ↦ free q refl (subst (IsIn i.clobbers) e is) | inr none ↦ absurd none ],
)

pub number_fits : (o : OperandIface) (alt : AltIface) (range : ℤ × ℤ) → alt.numbers ≡ Some range → HasNumber o alt range → (known : Option ℤ) → o.known ≡ known → IsNumber alt.numbers o.known (unwrap_or known (lower_end alt.numbers))
number_fits o alt range is h None e = record {
  some = rw is refl;
  within = λ x f. let same : x ≡ range = (let both : Some x ≡ Some range = sym f ∙ is in cc) in
      subst (λ n. (x.0 ≤ℤ n) × (n ≤ℤ x.1)) (sym (ap lower_end is)) (subst (λ (y : ℤ × ℤ). (y.0 ≤ℤ range.0) × (range.0 ≤ℤ y.1)) (sym same) (omega (arith, ints), h.least e));
  is_known = λ x f. let wrong : None ≡ Some x = sym e ∙ f in cc;
}
number_fits o alt range is h (Some n) e = record {
  some = rw is refl;
  within = λ x f. let same : x ≡ range = (let both : Some x ≡ Some range = sym f ∙ is in cc) in subst (λ (y : ℤ × ℤ). (y.0 ≤ℤ n) × (n ≤ℤ y.1)) (sym same) (h.known n e);
  is_known = λ x f. let both : Some n ≡ Some x = sym e ∙ f in cc;
}

member_either : (r : Reg) (xs ys : List Reg) → IsMember r (xs ++ ys) → IsMember r xs ⊎ IsMember r ys
member_either r [] ys m = inr m
member_either r (x ∷ xs) ys m = elim m [
  | inl e ↦ inl (inl e)
  | inr n ↦ elim (member_either r xs ys n) [ inl a ↦ inl (inr a) | inr b ↦ inr b ]
]

pub group_takes : (goal : Goal) (k : ℕ) (e o h : Bool) → takes_registers (group_for goal k e o h) ≡ true
group_takes Room k true o h = refl
group_takes Room k false true true = refl
group_takes Room k false true false = refl
group_takes Room k false false h = refl
group_takes (Use a) k true o h = refl
group_takes (Use a) k false true h = refl
group_takes (Use a) k false false h = refl

module _ (i : Interface) (s : Shape) (goal : Goal) (sound : IsSound i s) (classes : List Class) (are : AreClasses i s goal classes) (choice_of : ℕ → ℕ) (assigned : IsAssignment classes choice_of)
    (p : Placement) (placed : IsPlacedBy i s goal choice_of p) where
  -- where an operand is that is tied to none
  pub spot_at : (k : ℕ) (o : OperandIface) (alt : AltIface) (kind : Kind) → HasOperand i s k o alt kind → alt.tied ≡ None → spot_of p k ≡ kind_spot goal k (in_shape o alt kind) (choice_of k) kind
  spot_at k o alt kind has untied =
      let root = untied_root i s k o alt has.is_operand has.is_alternative untied in
      placed.spots k (has_inside i s k o sound has.is_operand)
      ∙ ap (λ m. spot_for goal m (operand_in i s m) (choice_of m)) root
      ∙ ap (λ x. spot_for goal k x (choice_of k)) (operand_is i s k o alt kind has)

  pub here : (k : ℕ) (o : OperandIface) (alt : AltIface) (kind : Kind) → HasOperand i s k o alt kind → alt.tied ≡ None → slice_get classes k ≡ Some (kind_class i s goal k (in_shape o alt kind) kind)
  here k o alt kind has untied = class_of i s goal classes k (in_shape o alt kind) are (has_inside i s k o sound has.is_operand) (operand_is i s k o alt kind has) untied

  pub register_taken : (k : ℕ) (o : OperandIface) (alt : AltIface) → HasOperand i s k o alt Register → alt.tied ≡ None → (choice_of k < 8) × (may_be_in i alt (choice_of k) ≡ true) × (is_wanted (asked_of goal k) (choice_of k) ≡ true)
  register_taken k o alt has untied =
      let is = here k o alt Register has untied in
      let class : Class = kind_class i s goal k (in_shape o alt Register) Register in
      let group = group_takes goal k alt.early (is_output o.role) (holds_input i s k) in
      let below = assigned.below k class is group in
      let both = and_parts _ _ (sym (of_choices_at (λ j. may_be_in i alt j && is_wanted (asked_of goal k) j) (choice_of k) below) ∙ assigned.taken k class is group) in
      (below, both.0, both.1)

  address_taken : (k : ℕ) (o : OperandIface) (alt : AltIface) (r : Reg) → HasOperand i s k o alt Memory → alt.tied ≡ None → asked_of goal k ≡ Some r
      → (choice_of k ≡ reg_number r) × (IsIn i.clobbers r → ⊥)
  address_taken k o alt r has untied asked =
      let is = here k o alt Memory has untied ∙ ap (λ a. Some (address_class i k a)) asked in
      let below = assigned.below k (address_class i k (Some r)) is refl in
      let both = and_parts _ _ (sym (of_choices_at (λ j. j == reg_number r && not (has_register i.clobbers j)) (choice_of k) below) ∙ assigned.taken k (address_class i k (Some r)) is refl) in
      let same = eqb-true _ _ both.0 in
      (same, out_free i.clobbers r (subst (λ n. not (has_register i.clobbers n) ≡ true) same both.1))

  number_free : (k : ℕ) (o : OperandIface) (alt : AltIface) (r : Reg) → HasOperand i s k o alt Number → alt.tied ≡ None → asked_of goal k ≡ Some r → ⊥
  number_free k o alt r has untied asked =
      let is = here k o alt Number has untied ∙ ap (λ a. Some (number_class k a)) asked in
      let below = assigned.below k (number_class k (Some r)) is refl in
      let wrong : false ≡ true = sym (of_choices_at (λ j. false) (choice_of k) below) ∙ assigned.taken k (number_class k (Some r)) is refl in
      cc

  fits : (k : ℕ) (o : OperandIface) (alt : AltIface) (kind : Kind) → HasOperand i s k o alt kind → alt.tied ≡ None → Fits i o alt kind (spot_of p k)
  fits k o alt Register has untied = let t = register_taken k o alt has untied in subst (Fits i o alt Register) (sym (spot_at k o alt Register has untied)) (choice_fits i o alt (choice_of k) t.0 t.1)
  fits k o alt Memory has untied = subst (Fits i o alt Memory) (sym (spot_at k o alt Memory has untied))
      (memory_fits i o alt k (asked_of goal k) (has_inside i s k o sound has.is_operand) (λ r e. (address_taken k o alt r has untied e).1))
  fits k o alt Number has untied =
      let n = sound.numbers k o alt has untied in
      subst (Fits i o alt Number) (sym (spot_at k o alt Number has untied)) (number_fits o alt n.range n.is_range n.number o.known refl)

  ties : (k : ℕ) → spot_of p k ≡ spot_of p (tie_root i s k)
  ties k = by_operand (slice_get i.operands k) refl
    where
      by_operand : (o : Option OperandIface) → slice_get i.operands k ≡ o → spot_of p k ≡ spot_of p (tie_root i s k)
      by_operand None e = ap (spot_of p) (sym (outside_root i s k e))
      by_operand (Some o) e =
          let r = root_of i s k o sound e in
          placed.spots k (has_inside i s k o sound e)
          ∙ ap (λ m. spot_for goal m (operand_in i s m) (choice_of m)) (sym r.root)
          ∙ sym (placed.spots (tie_root i s k) r.inside)

  -- an operand that takes a register of its own, with what is known of it
  record IsTaking (k : ℕ) (kind : Kind) (x : ShapedOperand) (r : Reg) : Type 0 where
    is : slice_get classes k ≡ Some (kind_class i s goal k x kind)
    below : choice_of k < 8
    group : (kind_class i s goal k x kind).group ≡ group_of_kind i s goal k x kind
    takes_it : takes (choice_of k) r ≡ true

  value_taking : (k : ℕ) (o : OperandIface) (alt : AltIface) (kind : Kind) (r : Reg) → HasOperand i s k o alt kind → alt.tied ≡ None → IsMember r (value_registers (spot_of p k))
      → (kind ≡ Register) × IsTaking k kind (in_shape o alt kind) r
  value_taking k o alt Register r has untied m =
      let t = register_taken k o alt has untied in (
        refl,
        record {
          is = here k o alt Register has untied;
          below = t.0;
          group = refl;
          takes_it = (spot_registers (choice_of k) t.0 r).0 (subst (λ z. IsMember r (value_registers z)) (spot_at k o alt Register has untied) m);
        },
      )
  value_taking k o alt Memory r has untied m = absurd (no_value k (asked_of goal k) (subst (λ z. IsMember r (value_registers z)) (spot_at k o alt Memory has untied) m))
    where
      no_value : (k : ℕ) (a : Option Reg) → IsMember r (value_registers (memory_spot k a)) → ⊥
      no_value k None m = m
      no_value k (Some q) m = m
  value_taking k o alt Number r has untied m = absurd (subst (λ z. IsMember r (value_registers z)) (spot_at k o alt Number has untied) m)

  -- an address register is one that was asked for
  address_taking : (k : ℕ) (o : OperandIface) (alt : AltIface) (kind : Kind) (r : Reg) → HasOperand i s k o alt kind → alt.tied ≡ None → IsMember r (address_registers (spot_of p k))
      → (asked_of goal k ≡ Some r) × IsTaking k kind (in_shape o alt kind) r
  address_taking k o alt Register r has untied m = absurd (no_address (choice_of k) (register_taken k o alt has untied).0 (subst (λ z. IsMember r (address_registers z)) (spot_at k o alt Register has untied) m))
    where
      no_address : (j : ℕ) → j < 8 → IsMember r (address_registers (choice_spot j)) → ⊥
      no_address j below = each_choice (λ j. IsMember r (address_registers (choice_spot j)) → ⊥) (λ m. m) (λ m. m) (λ m. m) (λ m. m) (λ m. m) (λ m. m) (λ m. m) (λ m. m) j below
  address_taking k o alt Memory r has untied m = by_asked (asked_of goal k) refl (subst (λ z. IsMember r (address_registers z)) (spot_at k o alt Memory has untied) m)
    where
      by_asked : (a : Option Reg) → asked_of goal k ≡ a → IsMember r (address_registers (memory_spot k a)) → (asked_of goal k ≡ Some r) × IsTaking k Memory (in_shape o alt Memory) r
      by_asked None e m = absurd m
      by_asked (Some q) e m = elim m [
        | inl same ↦
            let asked : asked_of goal k ≡ Some r = e ∙ ap (λ (z : Reg). Some z) (sym same) in
            let t = address_taken k o alt r has untied asked in (
              asked,
              record {
                is = here k o alt Memory has untied;
                below = assigned.below k (kind_class i s goal k (in_shape o alt Memory) Memory) (here k o alt Memory has untied) (ap (λ a. takes_registers (address_class i k a).group) asked);
                group = address_group i s goal k (in_shape o alt Memory) Memory (Some r) asked (ap (λ a. takes_registers (address_class i k a).group) asked);
                takes_it = ap (λ n. takes n r) t.0 ∙ takes_itself r;
              },
            )
        | inr none ↦ absurd none
      ]
  address_taking k o alt Number r has untied m = absurd (subst (λ z. IsMember r (address_registers z)) (spot_at k o alt Number has untied) m)

  any_taking : (k : ℕ) (o : OperandIface) (alt : AltIface) (kind : Kind) (r : Reg) → HasOperand i s k o alt kind → alt.tied ≡ None
      → IsMember r (value_registers (spot_of p k) ++ address_registers (spot_of p k)) → IsTaking k kind (in_shape o alt kind) r
  any_taking k o alt kind r has untied m = elim (member_either r (value_registers (spot_of p k)) (address_registers (spot_of p k)) m) [
    | inl value ↦ (value_taking k o alt kind r has untied value).1
    | inr address ↦ (address_taking k o alt kind r has untied address).1
  ]

  -- rivals take no register both
  rivals_apart : (k j : ℕ) (kind other : Kind) (x y : ShapedOperand) (r : Reg) → k ≢ j → IsTaking k kind x r → IsTaking j other y r
      → are_rivals (group_of_kind i s goal k x kind) (group_of_kind i s goal j y other) ≡ true → ⊥
  rivals_apart k j kind other x y r differ a b rivals =
      let told = ap (λ g. are_rivals g (kind_class i s goal j y other).group) a.group ∙ ap (are_rivals (group_of_kind i s goal k x kind)) b.group ∙ rivals in
      no_common (choice_of k) (choice_of j) a.below b.below (assigned.apart k j _ _ a.is b.is differ told) r a.takes_it b.takes_it

  outputs_apart : ((k j : ℕ) (x y : ShapedOperand) → k ≢ j → is_output x.role ≡ true → is_output y.role ≡ true → are_rivals (group_of_kind i s goal k x Register) (group_of_kind i s goal j y Register) ≡ true)
      → (k j : ℕ) (o q : OperandIface) → slice_get i.operands k ≡ Some o → slice_get i.operands j ≡ Some q → IsTrue (is_output o.role) → IsTrue (is_output q.role) → k ≢ j
      → AreApart (value_registers (spot_of p k)) (value_registers (spot_of p j))
  outputs_apart rivals k j o q is_o is_q out_k out_j differ r in_k in_j =
      let a = sound.each k o is_o in
      let b = sound.each j q is_q in
      let v = value_taking k o a.allowed a.kind r a.has (output_untied i s k o a.allowed a.kind sound a.has out_k) in_k in
      let w = value_taking j q b.allowed b.kind r b.has (output_untied i s j q b.allowed b.kind sound b.has out_j) in_j in
      rivals_apart k j a.kind b.kind (in_shape o a.allowed a.kind) (in_shape q b.allowed b.kind) r differ v.1 w.1
      (ap (λ z. are_rivals (group_of_kind i s goal k (in_shape o a.allowed a.kind) z) (group_of_kind i s goal j (in_shape q b.allowed b.kind) b.kind)) v.0
      ∙ ap (λ z. are_rivals (group_of_kind i s goal k (in_shape o a.allowed a.kind) Register) (group_of_kind i s goal j (in_shape q b.allowed b.kind) z)) w.0
      ∙ rivals k j (in_shape o a.allowed a.kind) (in_shape q b.allowed b.kind) differ out_k out_j)

  early_apart : ((k j : ℕ) (x y : ShapedOperand) (kind : Kind) → k ≢ j → x.allowed.early ≡ true → operand_in i s j ≡ Some y → y.allowed.tied ≡ None
      → are_rivals (group_of_kind i s goal k x Register) (group_of_kind i s goal j y kind) ≡ true)
      → (k j : ℕ) (o q : OperandIface) (alt : AltIface) (kind : Kind) → HasOperand i s k o alt kind → slice_get i.operands j ≡ Some q → IsTrue alt.early → tie_root i s j ≢ k
      → AreApart (value_registers (spot_of p k)) (value_registers (spot_of p j) ++ address_registers (spot_of p j))
  early_apart rivals k j o q alt kind has is_q early differ r in_k in_j =
      let untied = output_untied i s k o alt kind sound has (sound.early k o alt kind has early) in
      let v = value_taking k o alt kind r has untied in_k in
      let m = root_of i s j q sound is_q in
      let w = any_taking (tie_root i s j) m.operand m.allowed m.kind r m.has m.untied (subst (λ z. IsMember r (value_registers z ++ address_registers z)) (ties j) in_j) in
      let apart : k ≢ tie_root i s j = λ e. differ (sym e) in
      rivals_apart k (tie_root i s j) kind m.kind (in_shape o alt kind) (in_shape m.operand m.allowed m.kind) r apart v.1 w
      (ap (λ z. are_rivals (group_of_kind i s goal k (in_shape o alt kind) z) (group_of_kind i s goal (tie_root i s j) (in_shape m.operand m.allowed m.kind) m.kind)) v.0
      ∙ rivals k (tie_root i s j) (in_shape o alt kind) (in_shape m.operand m.allowed m.kind) m.kind apart early (operand_is i s (tie_root i s j) m.operand m.allowed m.kind m.has) m.untied)

  used : AreUsed i s goal p
  used = record { each = λ k x is untied r asked. uses_it k x (is_shaped i s k x is) untied r asked }
    where
      by_kind : (k : ℕ) (o : OperandIface) (alt : AltIface) (kind : Kind) → HasOperand i s k o alt kind → alt.tied ≡ None → (r : Reg) → asked_of goal k ≡ Some r
          → IsMember r (value_registers (spot_of p k) ++ address_registers (spot_of p k))
      by_kind k o alt Register has untied r asked =
          let t = register_taken k o alt has untied in
          let wanted : takes (choice_of k) r ≡ true = sym (ap (λ a. is_wanted a (choice_of k)) asked) ∙ t.2 in
          subst (λ z. IsMember r (value_registers z ++ address_registers z)) (sym (spot_at k o alt Register has untied))
          (in_first r (value_registers (choice_spot (choice_of k))) (address_registers (choice_spot (choice_of k))) ((spot_registers (choice_of k) t.0 r).1 wanted))
      by_kind k o alt Memory has untied r asked =
          subst (λ z. IsMember r (value_registers z ++ address_registers z)) (sym (spot_at k o alt Memory has untied ∙ ap (memory_spot k) asked)) (inl refl)
      by_kind k o alt Number has untied r asked = absurd (number_free k o alt r has untied asked)

      uses_it : (k : ℕ) (x : ShapedOperand) → IsShaped i s k x → x.allowed.tied ≡ None → (r : Reg) → asked_of goal k ≡ Some r → IsMember r (value_registers (spot_of p k) ++ address_registers (spot_of p k))
      uses_it k x d untied r asked = by_kind k d.operand x.allowed x.kind d.has untied r asked

-- ---- placements for both goals

pub use_allowed : (i : Interface) (s : Shape) (q : Asked) → IsSound i s → (classes : List Class) → AreClasses i s (Use q) classes → (choice_of : ℕ → ℕ) → IsAssignment classes choice_of
    → (p : Placement) → IsPlacedBy i s (Use q) choice_of p → IsAllowed i s p
use_allowed i s q sound classes are choice_of assigned p placed = record {
  count = placed.count;
  fits = fits i s (Use q) sound classes are choice_of assigned p placed;
  ties = ties i s (Use q) sound classes are choice_of assigned p placed;
  outputs_apart = outputs_apart i s (Use q) sound classes are choice_of assigned p placed
      (λ k j x y differ out_x out_y. rivals_use q k j x.allowed.early (is_output x.role) (holds_input i s k) y.allowed.early (is_output y.role) (holds_input i s j) differ
      ∙ or_right _ _ (or_right _ _ (and_from _ _ out_x out_y)));
  early_apart = early_apart i s (Use q) sound classes are choice_of assigned p placed
      (λ k j x y kind differ early is untied. rivals_use q k j x.allowed.early (is_output x.role) (holds_input i s k) (early_kind y kind) (output_kind y kind) (input_kind i s j y kind) differ ∙ or_left _ _ early);
}

pub use_used : (i : Interface) (s : Shape) (q : Asked) → IsSound i s → (classes : List Class) → AreClasses i s (Use q) classes → (choice_of : ℕ → ℕ) → IsAssignment classes choice_of
    → (p : Placement) → IsPlacedBy i s (Use q) choice_of p → AreUsed i s (Use q) p
use_used i s q sound classes are choice_of assigned p placed = used i s (Use q) sound classes are choice_of assigned p placed

module _ (i : Interface) (s : Shape) (sound : IsSound i s) (classes : List Class) (are : AreClasses i s Room classes) (choice_of : ℕ → ℕ) (assigned : IsAssignment classes choice_of)
    (p : Placement) (placed : IsPlacedBy i s Room choice_of p) where
  output_or_input : (k : ℕ) (x : ShapedOperand) → operand_in i s k ≡ Some x → x.allowed.tied ≡ None → is_output x.role ≡ false → holds_input i s k ≡ true
  output_or_input k x is untied h = input_unless i s k x Register is untied h

  -- what holds an input and stands in a register
  record IsHolding (k : ℕ) (r : Reg) : Type 0 where
    x : ShapedOperand
    is : operand_in i s k ≡ Some x
    untied : x.allowed.tied ≡ None
    taking : IsTaking i s Room sound classes are choice_of assigned p placed k Register x r
    input : holds_input i s k ≡ true

  holding : (k : ℕ) (o : OperandIface) (r : Reg) → slice_get i.operands k ≡ Some o → IsMember r (input_registers o (spot_of p k)) → IsHolding (tie_root i s k) r
  holding k o r is m =
      let root = root_of i s k o sound is in
      let x = in_shape root.operand root.allowed root.kind in
      elim (member_either r (if is_input o.role then value_registers (spot_of p k) else []) (address_registers (spot_of p k)) m) [
        | inl value ↦
            let split = if_member (is_input o.role) r (value_registers (spot_of p k)) value in
            let v = value_taking i s Room sound classes are choice_of assigned p placed (tie_root i s k) root.operand root.allowed root.kind r root.has root.untied
            (subst (λ z. IsMember r (value_registers z)) (ties i s Room sound classes are choice_of assigned p placed k) split.1) in
            record {
              x = x;
              is = operand_is i s (tie_root i s k) root.operand root.allowed root.kind root.has;
              untied = root.untied;
              taking = subst (λ z. IsTaking i s Room sound classes are choice_of assigned p placed (tie_root i s k) z x r) v.0 v.1;
              input = holds i s (tie_root i s k) (record { at = k; operand = o; is_operand = is; input = split.0; root = refl });
            }
        | inr address ↦
            let a = address_taking i s Room sound classes are choice_of assigned p placed (tie_root i s k) root.operand root.allowed root.kind r root.has root.untied
            (subst (λ z. IsMember r (address_registers z)) (ties i s Room sound classes are choice_of assigned p placed k) address) in
            absurd (not_asked (tie_root i s k) r a.0)
      ]
    where
      not_asked : (k : ℕ) (r : Reg) → asked_of Room k ≡ Some r → ⊥
      not_asked k r h = cc

      if_member : (b : Bool) (r : Reg) (rs : List Reg) → IsMember r (if b then rs else []) → (b ≡ true) × IsMember r rs
      if_member true r rs m = (refl, m)
      if_member false r rs m = absurd m

  pub room_roomy : IsRoomy i s p
  room_roomy = record {
    allowed = record {
      count = placed.count;
      fits = fits i s Room sound classes are choice_of assigned p placed;
      ties = ties i s Room sound classes are choice_of assigned p placed;
      outputs_apart = outputs_rivals;
      early_apart = early_apart i s Room sound classes are choice_of assigned p placed early_rivals;
    };
    inputs_apart = λ k j o q is_o is_q differ r in_k in_j.
        let a = holding k o r is_o in_k in
        let b = holding j q r is_q in_j in
        rivals_apart i s Room sound classes are choice_of assigned p placed (tie_root i s k) (tie_root i s j) Register Register a.x b.x r differ a.taking b.taking
        (rivals_room (tie_root i s k) (tie_root i s j) a.x.allowed.early (is_output a.x.role) (holds_input i s (tie_root i s k)) b.x.allowed.early (is_output b.x.role) (holds_input i s (tie_root i s j))
        (λ h. a.input) (λ h. b.input)
        ∙ or_right a.x.allowed.early _ (or_right b.x.allowed.early _ (or_right (is_output a.x.role && is_output b.x.role) _ (and_from _ _ a.input b.input))));
  }
    where
      outputs_rivals : (k j : ℕ) (o q : OperandIface) → slice_get i.operands k ≡ Some o → slice_get i.operands j ≡ Some q → IsTrue (is_output o.role) → IsTrue (is_output q.role) → k ≢ j
          → AreApart (value_registers (spot_of p k)) (value_registers (spot_of p j))
      outputs_rivals = outputs_apart i s Room sound classes are choice_of assigned p placed
          (λ k j x y differ out_x out_y. rivals_room k j x.allowed.early (is_output x.role) (holds_input i s k) y.allowed.early (is_output y.role) (holds_input i s j)
          (λ h. let wrong : true ≡ false = sym out_x ∙ h in cc) (λ h. let wrong : true ≡ false = sym out_y ∙ h in cc) ∙ or_right _ _ (or_right _ _ (or_left _ _ (and_from _ _ out_x out_y))))

      early_rivals : (k j : ℕ) (x y : ShapedOperand) (kind : Kind) → k ≢ j → x.allowed.early ≡ true → operand_in i s j ≡ Some y → y.allowed.tied ≡ None
          → are_rivals (group_of_kind i s Room k x Register) (group_of_kind i s Room j y kind) ≡ true
      early_rivals k j x y kind differ early is untied =
          ap (λ e. are_rivals (group_for Room k e (is_output x.role) (holds_input i s k)) (group_of_kind i s Room j y kind)) early
          ∙ rivals_room k j true (is_output x.role) true (early_kind y kind) (output_kind y kind) (input_kind i s j y kind) (λ h. refl) (input_unless i s j y kind is untied)
