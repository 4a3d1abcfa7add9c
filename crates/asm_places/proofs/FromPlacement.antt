-- A placement gives an assignment of the classes.
use Rattle.std.proofs.Common.{◌≡◌, ◌≢◌, ◌⊎◌, inl, inr, ℕ, ◌<◌, ◌==◌, ◌&&◌, ◌||◌, not, List, [], ◌∷◌, ◌++◌, true, false, Option, None, Some, slice_get, refl, sym, ap, subst, ◌∙◌, arith, if◌then◌else◌}
use Rattle.std.specs.Int.{bit_at}
use Rattle.std.proofs.lemmas.Bool.{and_from, and_parts, or_left, or_cases, eqb-true, eq-eqb, false_from_ne_true, not_from_false}
use Rattle.register_search.specs.Assignment.{takes_registers, may_take, are_rivals, IsAssignment}
use Rattle.register_search.specs.declared.class.Class.{Class}
use Rattle.register_search.specs.declared.class.Group.{Group}
use Rattle.register_search.specs.declared.class.Group.TheVariants.{Absent, Exclusive, Numbered}
use Rattle.asm_core.specs.Reg.{reg_number, IsIn}
use Rattle.asm_core.specs.Lists.{IsMember}
use Rattle.asm_core.specs.Placement.{spot_of, value_registers, address_registers, input_registers, Fits, IsAllowed, IsRoomy, tie_root, is_output, is_input}
use Rattle.asm_core.specs.declared.reg.Reg.{Reg}
use Rattle.asm_core.specs.declared.reg.Reg.TheVariants.{Eax, Ebx, Ecx, Edx, Esi, Edi, Ebp}
use Rattle.asm_core.specs.declared.reg.RegSet.{RegSet}
use Rattle.asm_core.specs.declared.shape.Kind.{Kind}
use Rattle.asm_core.specs.declared.shape.Kind.TheVariants.{Register, Memory, Number}
use Rattle.asm_core.specs.declared.shape.Shape.{Shape}
use Rattle.asm_core.specs.declared.interface.AltIface.{AltIface}
use Rattle.asm_core.specs.declared.interface.OperandIface.{OperandIface}
use Rattle.asm_core.specs.declared.interface.Interface.{Interface}
use Rattle.asm_core.specs.declared.placement.Spot.{Spot}
use Rattle.asm_core.specs.declared.placement.Placement.{Placement}
use Rattle.asm_core.proofs.RegisterLaws.{same_reg}
use Rattle.asm_places.specs.Operand.{operand_in, holds_input, has_register, takes}
use Rattle.asm_places.specs.Classes.{asked_of, is_wanted, may_be_in, kind_class, address_class, number_class, AreClasses}
use Rattle.asm_places.specs.Placing.{choice_spot}
use Rattle.asm_places.specs.declared.goal.Asked.{Asked}
use Rattle.asm_places.specs.declared.goal.Goal.{Goal}
use Rattle.asm_places.specs.declared.goal.Goal.TheVariants.{Room, Use}
use Rattle.asm_places.specs.declared.operand.ShapedOperand.{ShapedOperand}
use Rattle.asm_places.proofs.Shaped.{IsShaped, is_shaped, untied_root, input_of}
use Rattle.asm_places.proofs.Choices.{spot_registers, no_common_bit}
use Rattle.asm_places.proofs.Rivals.{rivals_use, rivals_room}
use Rattle.asm_places.proofs.Takers.{IsTaker, taker, taker_group, input_unless, of_choices_at, early_kind, output_kind, input_kind, group_of_kind}

-- the choice that a spot stands for
abbrev pub choice_from : Option Reg → Spot → ℕ
choice_from asked (Spot.Register r) = reg_number r
choice_from asked Spot.Pair = 7
choice_from None (Spot.Memory form) = 0
choice_from (Some r) (Spot.Memory form) = reg_number r
choice_from asked (Spot.Number n) = 0

number_below : (r : Reg) → reg_number r < 8
number_below Eax = omega arith
number_below Ebx = omega arith
number_below Ecx = omega arith
number_below Edx = omega arith
number_below Esi = omega arith
number_below Edi = omega arith
number_below Ebp = omega arith

no_pair : (r : Reg) → (reg_number r == 7) ≡ false
no_pair Eax = refl
no_pair Ebx = refl
no_pair Ecx = refl
no_pair Edx = refl
no_pair Esi = refl
no_pair Edi = refl
no_pair Ebp = refl

pub spot_again : (r : Reg) → choice_spot (reg_number r) ≡ Spot.Register r
spot_again Eax = refl
spot_again Ebx = refl
spot_again Ecx = refl
spot_again Edx = refl
spot_again Esi = refl
spot_again Edi = refl
spot_again Ebp = refl

pub choice_below : (asked : Option Reg) (spot : Spot) → choice_from asked spot < 8
choice_below asked (Spot.Register r) = number_below r
choice_below asked Spot.Pair = omega arith
choice_below None (Spot.Memory form) = omega arith
choice_below (Some r) (Spot.Memory form) = number_below r
choice_below asked (Spot.Number n) = omega arith

is_in : (set : RegSet) (r : Reg) → IsIn set r → has_register set (reg_number r) ≡ true
is_in set r h = eq-eqb (bit_at set.0 (reg_number r)) 1 h

not_in : (set : RegSet) (r : Reg) → (IsIn set r → ⊥) → not (has_register set (reg_number r)) ≡ true
not_in set r h = not_from_false (has_register set (reg_number r)) (false_from_ne_true _ (λ e. h (eqb-true _ _ e)))

pub takes_itself : (r : Reg) → takes (reg_number r) r ≡ true
takes_itself r = or_left _ _ (eq-eqb (reg_number r) (reg_number r) refl)

pub takes_no_other : (r q : Reg) → takes (reg_number r) q ≡ true → q ≡ r
takes_no_other r q h = elim (or_cases (reg_number r == reg_number q) (reg_number r == 7 && (reg_number q == 0 || reg_number q == 3)) h) [
  | inl same ↦ same_reg q r (sym (eqb-true _ _ same))
  | inr pair ↦ let wrong : false ≡ true = sym (no_pair r) ∙ (and_parts _ _ pair).0 in cc
]

-- the operand uses the register that it has to
abbrev pub IsUsed : Option Reg → Spot → Type 0
IsUsed asked spot = (r : Reg) → asked ≡ Some r → IsMember r (value_registers spot ++ address_registers spot)

may_from : (i : Interface) (alt : AltIface) (r : Reg) → IsIn alt.regs r → (IsIn i.clobbers r → ⊥) → may_be_in i alt (reg_number r) ≡ true
may_from i alt r has free =
    ap (λ b. if b then alt.pair && (not (has_register i.clobbers 0) && not (has_register i.clobbers 3)) else has_register alt.regs (reg_number r) && not (has_register i.clobbers (reg_number r))) (no_pair r)
    ∙ and_from _ _ (is_in alt.regs r has) (not_in i.clobbers r free)

wanted_from : (asked : Option Reg) (choice : ℕ) → ((r : Reg) → asked ≡ Some r → takes choice r ≡ true) → is_wanted asked choice ≡ true
wanted_from None choice h = refl
wanted_from (Some r) choice h = h r refl

one_of : (q r : Reg) → IsMember q ((r ∷ []) ++ []) → q ≡ r
one_of q r h = elim h [ inl e ↦ e | inr n ↦ absurd n ]

register_taken : (i : Interface) (o : OperandIface) (alt : AltIface) (asked : Option Reg) (spot : Spot) → Fits i o alt Register spot → IsUsed asked spot
    → (may_be_in i alt (choice_from asked spot) && is_wanted asked (choice_from asked spot)) ≡ true
register_taken i o alt asked (Spot.Register r) fits used =
    and_from _ _ (may_from i alt r fits.0 fits.1) (wanted_from asked (reg_number r) (λ q e. ap (takes (reg_number r)) (one_of q r (used q e)) ∙ takes_itself r))
register_taken i o alt asked Spot.Pair fits used =
    and_from _ _ (and_from _ _ fits.0 (and_from _ _ (not_in i.clobbers Eax (fits.1 Eax (inl refl))) (not_in i.clobbers Edx (fits.1 Edx (inr (inl refl))))))
    (wanted_from asked 7 (λ q e. elim (used q e) [ inl a ↦ ap (takes 7) a | inr b ↦ elim b [ inl d ↦ ap (takes 7) d | inr n ↦ absurd n ] ]))
register_taken i o alt asked (Spot.Memory form) fits used = absurd fits
register_taken i o alt asked (Spot.Number n) fits used = absurd fits

address_taken : (i : Interface) (o : OperandIface) (alt : AltIface) (r : Reg) (spot : Spot) → Fits i o alt Memory spot → IsUsed (Some r) spot
    → (choice_from (Some r) spot == reg_number r && not (has_register i.clobbers (choice_from (Some r) spot))) ≡ true
address_taken i o alt r (Spot.Register q) fits used = absurd fits
address_taken i o alt r Spot.Pair fits used = absurd fits
address_taken i o alt r (Spot.Memory form) fits used = and_from _ _ (eq-eqb (reg_number r) (reg_number r) refl) (not_in i.clobbers r (fits.1 r (used r refl)))
address_taken i o alt r (Spot.Number n) fits used = absurd fits

number_unused : (i : Interface) (o : OperandIface) (alt : AltIface) (r : Reg) (spot : Spot) → Fits i o alt Number spot → IsUsed (Some r) spot → ⊥
number_unused i o alt r (Spot.Register q) fits used = fits
number_unused i o alt r Spot.Pair fits used = fits
number_unused i o alt r (Spot.Memory form) fits used = fits
number_unused i o alt r (Spot.Number n) fits used = used r refl

-- the class of an operand takes the choice of its spot
kind_taken : (i : Interface) (s : Shape) (goal : Goal) (k : ℕ) (x : ShapedOperand) (o : OperandIface) (kind : Kind) (asked : Option Reg) (spot : Spot) → asked_of goal k ≡ asked
    → takes_registers (kind_class i s goal k x kind).group ≡ true → Fits i o x.allowed kind spot → IsUsed asked spot → may_take (kind_class i s goal k x kind) (choice_from asked spot) ≡ true
kind_taken i s goal k x o Register asked spot e takes fits used =
    of_choices_at (λ j. may_be_in i x.allowed j && is_wanted (asked_of goal k) j) (choice_from asked spot) (choice_below asked spot)
    ∙ ap (λ a. may_be_in i x.allowed (choice_from asked spot) && is_wanted a (choice_from asked spot)) e ∙ register_taken i o x.allowed asked spot fits used
kind_taken i s goal k x o Memory None spot e takes fits used = let wrong : false ≡ true = sym (ap (λ a. takes_registers (address_class i k a).group) e) ∙ takes in cc
kind_taken i s goal k x o Memory (Some r) spot e takes fits used =
    ap (λ a. may_take (address_class i k a) (choice_from (Some r) spot)) e
    ∙ of_choices_at (λ j. j == reg_number r && not (has_register i.clobbers j)) (choice_from (Some r) spot) (choice_below (Some r) spot) ∙ address_taken i o x.allowed r spot fits used
kind_taken i s goal k x o Number None spot e takes fits used = let wrong : false ≡ true = sym (ap (λ a. takes_registers (number_class k a).group) e) ∙ takes in cc
kind_taken i s goal k x o Number (Some r) spot e takes fits used = absurd (number_unused i o x.allowed r spot fits used)

pub in_first : (r : Reg) (xs ys : List Reg) → IsMember r xs → IsMember r (xs ++ ys)
in_first r [] ys h = absurd h
in_first r (x ∷ xs) ys h = elim h [ inl e ↦ inl e | inr m ↦ inr (in_first r xs ys m) ]

-- what a register operand takes are the registers of its value
value_covers : (i : Interface) (o : OperandIface) (alt : AltIface) (asked : Option Reg) (spot : Spot) → Fits i o alt Register spot → (r : Reg) → takes (choice_from asked spot) r ≡ true → IsMember r (value_registers spot)
value_covers i o alt asked (Spot.Register q) fits r h = inl (takes_no_other q r h)
value_covers i o alt asked Spot.Pair fits r h = (spot_registers 7 (omega arith) r).1 h
value_covers i o alt asked (Spot.Memory form) fits r h = absurd fits
value_covers i o alt asked (Spot.Number n) fits r h = absurd fits

covers : (i : Interface) (s : Shape) (goal : Goal) (k : ℕ) (x : ShapedOperand) (o : OperandIface) (kind : Kind) (asked : Option Reg) (spot : Spot) → asked_of goal k ≡ asked
    → takes_registers (kind_class i s goal k x kind).group ≡ true → Fits i o x.allowed kind spot → IsUsed asked spot
    → (r : Reg) → takes (choice_from asked spot) r ≡ true → IsMember r (value_registers spot ++ address_registers spot)
covers i s goal k x o Register asked spot e takes fits used r h = in_first r (value_registers spot) (address_registers spot) (value_covers i o x.allowed asked spot fits r h)
covers i s goal k x o Memory None spot e takes fits used r h = let wrong : false ≡ true = sym (ap (λ a. takes_registers (address_class i k a).group) e) ∙ takes in cc
covers i s goal k x o Memory (Some q) (Spot.Register t) e takes fits used r h = absurd fits
covers i s goal k x o Memory (Some q) Spot.Pair e takes fits used r h = absurd fits
covers i s goal k x o Memory (Some q) (Spot.Memory form) e takes fits used r h =
    subst (λ z. IsMember z (value_registers (Spot.Memory form) ++ address_registers (Spot.Memory form))) (sym (takes_no_other q r h)) (used q refl)
covers i s goal k x o Memory (Some q) (Spot.Number n) e takes fits used r h = absurd fits
covers i s goal k x o Number None spot e takes fits used r h = let wrong : false ≡ true = sym (ap (λ a. takes_registers (number_class k a).group) e) ∙ takes in cc
covers i s goal k x o Number (Some q) spot e takes fits used r h = absurd (number_unused i o x.allowed q spot fits used)

-- each operand uses the register that it has to
pub record AreUsed (i : Interface) (s : Shape) (goal : Goal) (p : Placement) : Type 0 where
  pub each : (k : ℕ) (x : ShapedOperand) → operand_in i s k ≡ Some x → x.allowed.tied ≡ None → IsUsed (asked_of goal k) (spot_of p k)

abbrev pub choices_from : Goal → Placement → ℕ → ℕ
choices_from goal p k = choice_from (asked_of goal k) (spot_of p k)

early_register : (x : ShapedOperand) (kind : Kind) → early_kind x kind ≡ true → (kind ≡ Register) × (x.allowed.early ≡ true)
early_register x Register h = (refl, h)
early_register x Memory h = cc
early_register x Number h = cc

output_register : (x : ShapedOperand) (kind : Kind) → output_kind x kind ≡ true → (kind ≡ Register) × (is_output x.role ≡ true)
output_register x Register h = (refl, h)
output_register x Memory h = cc
output_register x Number h = cc

module _ (i : Interface) (s : Shape) (goal : Goal) (classes : List Class) (are : AreClasses i s goal classes) (p : Placement) (allowed : IsAllowed i s p) (used : AreUsed i s goal p) where
  record IsAt (k : ℕ) (c : Class) : Type 0 where
    t : IsTaker i s goal k c
    takes : takes_registers c.group ≡ true
    d : IsShaped i s k t.operand
    fits : Fits i d.operand t.operand.allowed t.operand.kind (spot_of p k)
    used_here : IsUsed (asked_of goal k) (spot_of p k)
    root : tie_root i s k ≡ k

  at : (k : ℕ) (c : Class) → slice_get classes k ≡ Some c → takes_registers c.group ≡ true → IsAt k c
  at k c is takes =
      let t = taker i s goal classes k c are is takes in
      let d = is_shaped i s k t.operand t.is_operand in
      record {
        t = t;
        takes = takes;
        d = d;
        fits = allowed.fits k d.operand t.operand.allowed t.operand.kind d.has t.untied;
        used_here = used.each k t.operand t.is_operand t.untied;
        root = untied_root i s k d.operand t.operand.allowed d.has.is_operand d.has.is_alternative t.untied;
      }

  group_takes : (k : ℕ) (c : Class) (a : IsAt k c) → takes_registers (kind_class i s goal k a.t.operand a.t.operand.kind).group ≡ true
  group_takes k c a = ap (λ (x : Class). takes_registers x.group) (sym a.t.is_class) ∙ a.takes

  taken : (k : ℕ) (c : Class) → slice_get classes k ≡ Some c → takes_registers c.group ≡ true → may_take c (choices_from goal p k) ≡ true
  taken k c is takes =
      let a = at k c is takes in
      ap (λ x. may_take x (choices_from goal p k)) a.t.is_class
      ∙ kind_taken i s goal k a.t.operand a.d.operand a.t.operand.kind (asked_of goal k) (spot_of p k) refl (group_takes k c a) a.fits a.used_here

  all_covered : (k : ℕ) (c : Class) → IsAt k c → (r : Reg) → takes (choices_from goal p k) r ≡ true → IsMember r (value_registers (spot_of p k) ++ address_registers (spot_of p k))
  all_covered k c a = covers i s goal k a.t.operand a.d.operand a.t.operand.kind (asked_of goal k) (spot_of p k) refl (group_takes k c a) a.fits a.used_here

  values_covered : (k : ℕ) (c : Class) (a : IsAt k c) → a.t.operand.kind ≡ Register → (r : Reg) → takes (choices_from goal p k) r ≡ true → IsMember r (value_registers (spot_of p k))
  values_covered k c a kind = value_covers i a.d.operand a.t.operand.allowed (asked_of goal k) (spot_of p k) (subst (λ z. Fits i a.d.operand a.t.operand.allowed z (spot_of p k)) kind a.fits)

  -- no register is taken twice
  Apart : ℕ → ℕ → Type 0
  Apart k j = (r : Reg) → takes (choices_from goal p k) r ≡ true → takes (choices_from goal p j) r ≡ true → ⊥

  from_early : (k j : ℕ) (c d : Class) (a : IsAt k c) (b : IsAt j d) → k ≢ j → early_kind a.t.operand a.t.operand.kind ≡ true → Apart k j
  unfolding Apart
  from_early k j c d a b differ early r in_k in_j =
      let e = early_register a.t.operand a.t.operand.kind early in
      allowed.early_apart k j a.d.operand b.d.operand a.t.operand.allowed a.t.operand.kind a.d.has b.d.has.is_operand e.1 (λ same. differ (sym (sym b.root ∙ same)))
      r (values_covered k c a e.0 r in_k) (all_covered j d b r in_j)

  from_outputs : (k j : ℕ) (c d : Class) (a : IsAt k c) (b : IsAt j d) → k ≢ j → output_kind a.t.operand a.t.operand.kind ≡ true → output_kind b.t.operand b.t.operand.kind ≡ true → Apart k j
  unfolding Apart
  from_outputs k j c d a b differ out_k out_j r in_k in_j =
      let e = output_register a.t.operand a.t.operand.kind out_k in
      let f = output_register b.t.operand b.t.operand.kind out_j in
      allowed.outputs_apart k j a.d.operand b.d.operand a.d.has.is_operand b.d.has.is_operand (ap is_output a.d.role ∙ e.1) (ap is_output b.d.role ∙ f.1) differ
      r (values_covered k c a e.0 r in_k) (values_covered j d b f.0 r in_j)

pub room_register : (i : Interface) (s : Shape) (k : ℕ) (x : ShapedOperand) (kind : Kind) → takes_registers (kind_class i s Room k x kind).group ≡ true → kind ≡ Register
room_register i s k x Register h = refl
room_register i s k x Memory h = cc
room_register i s k x Number h = cc

in_inputs : (o : OperandIface) (spot : Spot) (r : Reg) → is_input o.role ≡ true → IsMember r (value_registers spot) → IsMember r (input_registers o spot)
in_inputs o spot r input m = subst (λ b. IsMember r ((if b then value_registers spot else []) ++ address_registers spot)) (sym input) (in_first r (value_registers spot) (address_registers spot) m)

input_register : (i : Interface) (s : Shape) (k : ℕ) (x : ShapedOperand) (kind : Kind) → kind ≡ Register → input_kind i s k x kind ≡ true → holds_input i s k ≡ true
input_register i s k x Register e h = h
input_register i s k x Memory e h = cc
input_register i s k x Number e h = cc

-- in a roomy placement two that hold inputs are apart
from_inputs : (i : Interface) (s : Shape) (classes : List Class) (are : AreClasses i s Room classes) (p : Placement) (roomy : IsRoomy i s p) (used : AreUsed i s Room p)
    → (k j : ℕ) (c d : Class) (a : IsAt i s Room classes are p roomy.allowed used k c) (b : IsAt i s Room classes are p roomy.allowed used j d) → k ≢ j
    → input_kind i s k a.t.operand a.t.operand.kind ≡ true → input_kind i s j b.t.operand b.t.operand.kind ≡ true → Apart i s Room classes are p roomy.allowed used k j
unfolding Apart
from_inputs i s classes are p roomy used k j c d a b differ in_k in_j r takes_k takes_j =
    let kind_k = room_register i s k a.t.operand a.t.operand.kind (group_takes i s Room classes are p roomy.allowed used k c a) in
    let kind_j = room_register i s j b.t.operand b.t.operand.kind (group_takes i s Room classes are p roomy.allowed used j d b) in
    let m = input_of i s k (input_register i s k a.t.operand a.t.operand.kind kind_k in_k) in
    let n = input_of i s j (input_register i s j b.t.operand b.t.operand.kind kind_j in_j) in
    let spot_m : spot_of p m.at ≡ spot_of p k = roomy.allowed.ties m.at ∙ ap (spot_of p) m.root in
    let spot_n : spot_of p n.at ≡ spot_of p j = roomy.allowed.ties n.at ∙ ap (spot_of p) n.root in
    roomy.inputs_apart m.at n.at m.operand n.operand m.is_operand n.is_operand (λ same. differ (sym m.root ∙ same ∙ n.root)) r
    (in_inputs m.operand (spot_of p m.at) r m.input (subst (λ z. IsMember r (value_registers z)) (sym spot_m) (values_covered i s Room classes are p roomy.allowed used k c a kind_k r takes_k)))
    (in_inputs n.operand (spot_of p n.at) r n.input (subst (λ z. IsMember r (value_registers z)) (sym spot_n) (values_covered i s Room classes are p roomy.allowed used j d b kind_j r takes_j)))

pub rival_takes : (g h : Group) → are_rivals g h ≡ true → (takes_registers g ≡ true) × (takes_registers h ≡ true)
rival_takes Absent h e = cc
rival_takes Exclusive Absent e = cc
rival_takes Exclusive Exclusive e = (refl, refl)
rival_takes Exclusive (Numbered n) e = (refl, refl)
rival_takes (Numbered m) Absent e = cc
rival_takes (Numbered m) Exclusive e = (refl, refl)
rival_takes (Numbered m) (Numbered n) e = (refl, refl)

assignment_use : (i : Interface) (s : Shape) (q : Asked) (classes : List Class) → AreClasses i s (Use q) classes → (p : Placement) → IsAllowed i s p → AreUsed i s (Use q) p → IsAssignment classes (choices_from (Use q) p)
unfolding Apart
assignment_use i s q classes are p allowed used = record {
  below = λ k c is takes. choice_below (asked_of (Use q) k) (spot_of p k);
  taken = taken i s (Use q) classes are p allowed used;
  apart = λ k j c d is_c is_d differ rivals.
      let both = rival_takes c.group d.group rivals in
      let a = at i s (Use q) classes are p allowed used k c is_c both.0 in
      let b = at i s (Use q) classes are p allowed used j d is_d both.1 in
      let x = a.t.operand in
      let y = b.t.operand in
      let told : are_rivals (group_of_kind i s (Use q) k x x.kind) (group_of_kind i s (Use q) j y y.kind) ≡ true =
      ap (λ g. are_rivals g (group_of_kind i s (Use q) j y y.kind)) (sym (taker_group i s (Use q) k c a.t both.0)) ∙ ap (are_rivals c.group) (sym (taker_group i s (Use q) j d b.t both.1)) ∙ rivals in
      no_common_bit (choices_from (Use q) p k) (choices_from (Use q) p j) (choice_below (asked_of (Use q) k) (spot_of p k)) (choice_below (asked_of (Use q) j) (spot_of p j))
      (why k j c d a b differ (or_cases _ _ (sym (rivals_use q k j (early_kind x x.kind) (output_kind x x.kind) (input_kind i s k x x.kind) (early_kind y y.kind) (output_kind y y.kind) (input_kind i s j y y.kind) differ) ∙ told)));
}
  where
    swap : (k j : ℕ) → Apart i s (Use q) classes are p allowed used j k → Apart i s (Use q) classes are p allowed used k j
    swap k j h r in_k in_j = h r in_j in_k

    why : (k j : ℕ) (c d : Class) (a : IsAt i s (Use q) classes are p allowed used k c) (b : IsAt i s (Use q) classes are p allowed used j d) → k ≢ j
        → (early_kind a.t.operand a.t.operand.kind ≡ true) ⊎ ((early_kind b.t.operand b.t.operand.kind || (output_kind a.t.operand a.t.operand.kind && output_kind b.t.operand b.t.operand.kind)) ≡ true)
        → Apart i s (Use q) classes are p allowed used k j
    why k j c d a b differ (inl early) = from_early i s (Use q) classes are p allowed used k j c d a b differ early
    why k j c d a b differ (inr rest) = elim (or_cases (early_kind b.t.operand b.t.operand.kind) (output_kind a.t.operand a.t.operand.kind && output_kind b.t.operand b.t.operand.kind) rest) [
      | inl early ↦ swap k j (from_early i s (Use q) classes are p allowed used j k d c b a (λ e. differ (sym e)) early)
      | inr outputs ↦ let out = and_parts (output_kind a.t.operand a.t.operand.kind) (output_kind b.t.operand b.t.operand.kind) outputs in
          from_outputs i s (Use q) classes are p allowed used k j c d a b differ out.0 out.1
    ]

assignment_room : (i : Interface) (s : Shape) (classes : List Class) → AreClasses i s Room classes → (p : Placement) → IsRoomy i s p → AreUsed i s Room p → IsAssignment classes (choices_from Room p)
unfolding Apart
assignment_room i s classes are p roomy used = record {
  below = λ k c is takes. choice_below (asked_of Room k) (spot_of p k);
  taken = taken i s Room classes are p roomy.allowed used;
  apart = λ k j c d is_c is_d differ rivals.
      let both = rival_takes c.group d.group rivals in
      let a = at i s Room classes are p roomy.allowed used k c is_c both.0 in
      let b = at i s Room classes are p roomy.allowed used j d is_d both.1 in
      let x = a.t.operand in
      let y = b.t.operand in
      let told : are_rivals (group_of_kind i s Room k x x.kind) (group_of_kind i s Room j y y.kind) ≡ true =
      ap (λ g. are_rivals g (group_of_kind i s Room j y y.kind)) (sym (taker_group i s Room k c a.t both.0)) ∙ ap (are_rivals c.group) (sym (taker_group i s Room j d b.t both.1)) ∙ rivals in
      no_common_bit (choices_from Room p k) (choices_from Room p j) (choice_below (asked_of Room k) (spot_of p k)) (choice_below (asked_of Room j) (spot_of p j))
      (why k j c d a b differ (or_cases _ _ (sym (rivals_room k j (early_kind x x.kind) (output_kind x x.kind) (input_kind i s k x x.kind) (early_kind y y.kind) (output_kind y y.kind) (input_kind i s j y y.kind)
      (input_unless i s k x x.kind a.t.is_operand a.t.untied) (input_unless i s j y y.kind b.t.is_operand b.t.untied)) ∙ told)));
}
  where
    swap : (k j : ℕ) → Apart i s Room classes are p roomy.allowed used j k → Apart i s Room classes are p roomy.allowed used k j
    swap k j h r in_k in_j = h r in_j in_k

    why : (k j : ℕ) (c d : Class) (a : IsAt i s Room classes are p roomy.allowed used k c) (b : IsAt i s Room classes are p roomy.allowed used j d) → k ≢ j
        → (early_kind a.t.operand a.t.operand.kind ≡ true)
        ⊎ ((early_kind b.t.operand b.t.operand.kind || ((output_kind a.t.operand a.t.operand.kind && output_kind b.t.operand b.t.operand.kind) || (input_kind i s k a.t.operand a.t.operand.kind && input_kind i s j b.t.operand b.t.operand.kind))) ≡ true)
        → Apart i s Room classes are p roomy.allowed used k j
    why k j c d a b differ (inl early) = from_early i s Room classes are p roomy.allowed used k j c d a b differ early
    why k j c d a b differ (inr rest) = elim (or_cases (early_kind b.t.operand b.t.operand.kind) _ rest) [
      | inl early ↦ swap k j (from_early i s Room classes are p roomy.allowed used j k d c b a (λ e. differ (sym e)) early)
      | inr others ↦ elim (or_cases (output_kind a.t.operand a.t.operand.kind && output_kind b.t.operand b.t.operand.kind) (input_kind i s k a.t.operand a.t.operand.kind && input_kind i s j b.t.operand b.t.operand.kind) others) [
        | inl outputs ↦ let out = and_parts (output_kind a.t.operand a.t.operand.kind) (output_kind b.t.operand b.t.operand.kind) outputs in
            from_outputs i s Room classes are p roomy.allowed used k j c d a b differ out.0 out.1
        | inr inputs ↦ let both = and_parts (input_kind i s k a.t.operand a.t.operand.kind) (input_kind i s j b.t.operand b.t.operand.kind) inputs in
            from_inputs i s classes are p roomy used k j c d a b differ both.0 both.1
      ]
    ]

nothing_asked : (i : Interface) (s : Shape) (p : Placement) → AreUsed i s Room p
nothing_asked i s p = record { each = λ k x is untied r e. cc }

-- a roomy placement gives an assignment
pub roomy_assigns : (i : Interface) (s : Shape) (classes : List Class) → AreClasses i s Room classes → (p : Placement) → IsRoomy i s p → IsAssignment classes (choices_from Room p)
roomy_assigns i s classes are p roomy = assignment_room i s classes are p roomy (nothing_asked i s p)

-- and so does an allowed one in which what has to use a register uses it
pub allowed_assigns : (i : Interface) (s : Shape) (q : Asked) (classes : List Class) → AreClasses i s (Use q) classes → (p : Placement) → IsAllowed i s p → AreUsed i s (Use q) p
    → IsAssignment classes (choices_from (Use q) p)
allowed_assigns i s q classes are p allowed used = assignment_use i s q classes are p allowed used
