-- Placements in which two places use a register, and the operands that have to use it.
use Rattle.std.proofs.Common.{◌≡◌, ◌↔◌, inl, inr, IsTrue, ℕ, ◌+◌, ◌<◌, ◌≤◌, IfSome, IfNone, pos, List, length, map, slice_index_or, ◌==◌, ◌||◌, not, [], ◌∷◌, ◌++◌, Bool, true, false, Option, None, Some, refl, sym, ap, subst, ◌∙◌, arith, if◌then◌else◌}
use Rattle.std.specs.List.{range_with_len}
use Rattle.std.proofs.lemmas.List.FromFn.{get_or-map-range_with_len}
use Rattle.std.proofs.lemmas.Bool.{or_cases, or_left, or_right, eqb-true, eq-eqb, both_ways, cases_eq}
use Rattle.asm_core.specs.Reg.{reg_number}
use Rattle.asm_core.specs.Lists.{IsMember}
use Rattle.asm_core.specs.Placement.{spot_of, value_registers, address_registers, IsAllowed, tie_root}
use Rattle.asm_core.specs.Roomy.{place_registers, IsPlaceOf, ShareRegister}
use Rattle.asm_core.specs.declared.reg.Reg.{Reg}
use Rattle.asm_core.specs.declared.sym.Place.{Place}
use Rattle.asm_core.specs.declared.shape.Shape.{Shape}
use Rattle.asm_core.specs.declared.interface.Interface.{Interface}
use Rattle.asm_core.specs.declared.placement.Spot.{Spot}
use Rattle.asm_core.specs.declared.placement.Placement.{Placement}
use Rattle.asm_core.proofs.RegisterLaws.{same_reg}
use Rattle.asm_places.specs.Operand.{operand_in}
use Rattle.asm_places.specs.Classes.{AreClasses, is_asked, asked_of}
use Rattle.register_search.specs.Assignment.{IsAssignment}
use Rattle.register_search.specs.declared.class.Class.{Class}
use Rattle.asm_places.specs.Placing.{spot_for, IsPlacedBy, IsLeastPlaced, HasAssignmentFor, HasNoAssignment}
use Rattle.asm_places.specs.Sharing.{is_other, operand_of, IsSharedIn, CanShareIn, CanShare}
use Rattle.asm_places.specs.declared.goal.Asked.{Asked}
use Rattle.asm_places.specs.declared.goal.Goal.{Goal}
use Rattle.asm_places.specs.declared.goal.Goal.TheVariants.{Use}
use Rattle.asm_places.specs.declared.operand.ShapedOperand.{ShapedOperand}
use Rattle.asm_places.proofs.Shaped.{in_shape, operand_is}
use Rattle.asm_places.proofs.FromPlacement.{AreUsed, choices_from, allowed_assigns}
use Rattle.asm_places.proofs.ToPlacement.{use_allowed, use_used}
use Rattle.asm_places.proofs.Sound.{IsSound, root_of}

-- where a choice puts operand k
abbrev spot_at : Interface → Shape → Goal → (ℕ → ℕ) → ℕ → Spot
spot_at i s goal choice_of k =
    spot_for goal (tie_root i s k) (operand_in i s (tie_root i s k)) (choice_of (tie_root i s k))

-- what is asked of the operands for two places and a register
abbrev pub asked_for : Interface → Shape → Place → Place → Reg → Asked
asked_for i s p q r = record { register = r; first = operand_of i s p; second = operand_of i s q }

one_member : (q r : Reg) → IsMember q (r ∷ []) → q ≡ r
one_member q r m = elim m [ inl e ↦ e | inr n ↦ absurd n ]

-- another register is not where the register is
pub other_apart : (at : Placement) (place : Place) (r : Reg) → is_other place r ≡ true → IsMember r (place_registers at place) → ⊥
other_apart at (Place.Reg own) r other m =
    both_ways (reg_number own == reg_number r) (not_true (reg_number own == reg_number r) other) (eq-eqb _ _ (ap reg_number (sym (one_member r own m))))
  where
    not_true : (b : Bool) → not b ≡ true → b ≡ false
    not_true true h = cc
    not_true false h = refl
other_apart at (Place.Operand k) r other m = cc

-- a place that is not another register uses the register, where its operand does
place_uses : (i : Interface) (s : Shape) (at : Placement) (place : Place) (r : Reg) → IsSound i s → IsPlaceOf i place → IsAllowed i s at → is_other place r ≡ false
    → ((k : ℕ) (x : ShapedOperand) → operand_of i s place ≡ Some k → operand_in i s k ≡ Some x → x.allowed.tied ≡ None → IsMember r (value_registers (spot_of at k) ++ address_registers (spot_of at k)))
    → IsMember r (place_registers at place)
place_uses i s at (Place.Reg own) r sound is allowed other used = inl (same_reg r own (sym (eqb-true _ _ (not_false (reg_number own == reg_number r) other))))
  where
    not_false : (b : Bool) → not b ≡ false → b ≡ true
    not_false true h = refl
    not_false false h = cc
place_uses i s at (Place.Operand k) r sound is allowed other used =
    let o = is.is_operand k refl in
    let m = root_of i s k o.0 sound o.1 in
    subst (λ z. IsMember r (value_registers z ++ address_registers z)) (sym (allowed.ties k))
    (used (tie_root i s k) (in_shape m.operand m.allowed m.kind) refl (operand_is i s (tie_root i s k) m.operand m.allowed m.kind m.has) m.untied)

asked_first : (a : Asked) (k : ℕ) → a.first ≡ Some k → asked_of (Use a) k ≡ Some a.register
asked_first a k e = ap (λ b. if b then Some a.register else None) (or_left (is_asked a.first k) (is_asked a.second k) (ap (λ o. is_asked o k) e ∙ eq-eqb k k refl))

asked_second : (a : Asked) (k : ℕ) → a.second ≡ Some k → asked_of (Use a) k ≡ Some a.register
asked_second a k e = ap (λ b. if b then Some a.register else None) (or_right (is_asked a.first k) (is_asked a.second k) (ap (λ o. is_asked o k) e ∙ eq-eqb k k refl))

-- a placement by the choices of an assignment
pub assigned_shares : (i : Interface) (s : Shape) (p q : Place) (r : Reg) (at : Placement) → IsSound i s → IsPlaceOf i p
    → IsPlaceOf i q → is_other p r ≡ false → is_other q r ≡ false → (classes : List Class)
    → AreClasses i s (Use (asked_for i s p q r)) classes → (choice_of : ℕ → ℕ) → IsAssignment classes choice_of
    → IsPlacedBy i s (Use (asked_for i s p q r)) choice_of at → IsSharedIn i s p q r at
assigned_shares i s p q r at sound is_p is_q other_p other_q classes are choice_of assigned placed =
    let asked = asked_for i s p q r in
    let allowed = use_allowed i s asked sound classes are choice_of assigned at placed in
    let used = use_used i s asked sound classes are choice_of assigned at placed in
    record {
      allowed = allowed;
      first = place_uses i s at p r sound is_p allowed other_p
          (λ k x e is untied. used.each k x is untied r (asked_first asked k e));
      second = place_uses i s at q r sound is_q allowed other_q
          (λ k x e is untied. used.each k x is untied r (asked_second asked k e));
    }

pub placed_shares : (i : Interface) (s : Shape) (p q : Place) (r : Reg) (at : Placement) → IsSound i s → IsPlaceOf i p
    → IsPlaceOf i q → is_other p r ≡ false → is_other q r ≡ false
    → IsLeastPlaced i s (Use (asked_for i s p q r)) at → IsSharedIn i s p q r at
placed_shares i s p q r at sound is_p is_q other_p other_q l =
    assigned_shares i s p q r at sound is_p is_q other_p other_q l.classes l.are l.choice_of l.least.assigned l.placed

-- the placement by some choices
abbrev placed_at : (i : Interface) (s : Shape) (goal : Goal) → (ℕ → ℕ) → Placement
placed_at i s goal choice_of = record {
  spots = map (spot_at i s goal choice_of) (range_with_len 0 30);
  count = length i.operands;
}

is_placed : (i : Interface) (s : Shape) (goal : Goal) (choice_of : ℕ → ℕ)
    → IsPlacedBy i s goal choice_of (placed_at i s goal choice_of)
is_placed i s goal choice_of = record {
  count = refl;
  spots = λ k below.
      get_or-map-range_with_len (spot_at i s goal choice_of) 0 30 k k (Spot.Number (pos 0)) below (omega arith);
}

-- an assignment gives one
pub assignment_shares : (i : Interface) (s : Shape) (p q : Place) (r : Reg) → IsSound i s → IsPlaceOf i p
    → IsPlaceOf i q → is_other p r ≡ false → is_other q r ≡ false → HasAssignmentFor i s (Use (asked_for i s p q r))
    → CanShareIn i s p q r
assignment_shares i s p q r sound is_p is_q other_p other_q h =
    let goal = Use (asked_for i s p q r) in record {
      at = placed_at i s goal h.some.0;
      shared = assigned_shares i s p q r (placed_at i s goal h.some.0) sound is_p is_q other_p other_q
          h.classes h.are h.some.0 h.some.1 (is_placed i s goal h.some.0);
    }

-- ---- and the other way round

asked_by : (o : Option ℕ) (k : ℕ) → is_asked o k ≡ true → o ≡ Some k
asked_by None k h = cc
asked_by (Some j) k h = ap (λ n. Some n) (eqb-true j k h)

place_asks : (i : Interface) (s : Shape) (at : Placement) (place : Place) (r : Reg) (k : ℕ) → IsAllowed i s at → IsMember r (place_registers at place) → operand_of i s place ≡ Some k
    → IsMember r (value_registers (spot_of at k) ++ address_registers (spot_of at k))
place_asks i s at (Place.Reg own) r k allowed m e = cc
place_asks i s at (Place.Operand j) r k allowed m e =
    let root : tie_root i s j ≡ k = cc in
    subst (λ z. IsMember r (value_registers z ++ address_registers z)) (allowed.ties j ∙ ap (spot_of at) root) m

only_one : (b : Bool) (r q : Reg) → (if b then Some r else None) ≡ Some q → (b ≡ true) × (r ≡ q)
only_one true r q h = (refl, let e : Some r ≡ Some q = h in cc)
only_one false r q h = cc

pub shared_used : (i : Interface) (s : Shape) (p q : Place) (r : Reg) (at : Placement) → IsSharedIn i s p q r at → AreUsed i s (Use (asked_for i s p q r)) at
shared_used i s p q r at shared = record { each = λ k x is untied t e. used k t e }
  where
    used : (k : ℕ) (t : Reg) → asked_of (Use (asked_for i s p q r)) k ≡ Some t → IsMember t (value_registers (spot_of at k) ++ address_registers (spot_of at k))
    used k t e =
        let told = only_one (is_asked (operand_of i s p) k || is_asked (operand_of i s q) k) r t e in
        subst (λ z. IsMember z (value_registers (spot_of at k) ++ address_registers (spot_of at k))) told.1
        (elim (or_cases (is_asked (operand_of i s p) k) (is_asked (operand_of i s q) k) told.0) [
          | inl first ↦ place_asks i s at p r k shared.allowed shared.first (asked_by (operand_of i s p) k first)
          | inr second ↦ place_asks i s at q r k shared.allowed shared.second (asked_by (operand_of i s q) k second)
        ])

pub none_shares : (i : Interface) (s : Shape) (p q : Place) (r : Reg) → HasNoAssignment i s (Use (asked_for i s p q r)) → (at : Placement) → IsSharedIn i s p q r at → ⊥
none_shares i s p q r h at shared =
    h.none (choices_from (Use (asked_for i s p q r)) at, allowed_assigns i s (asked_for i s p q r) h.classes h.are at shared.allowed (shared_used i s p q r at shared))

-- ---- the answers

pub if_some : {A : Type 0} (o : Option A) (P Q : A → Type 0) → ((x : A) → P x → Q x) → IfSome o P → IfSome o Q
if_some None P Q f h = h
if_some (Some x) P Q f h = f x h

pub if_none : {A : Type 0} (o : Option A) (P Q : Type 0) → (P → Q) → IfNone o P → IfNone o Q
if_none None P Q f h = f h
if_none (Some x) P Q f h = h

-- the registers in their order
abbrev pub register_at : ℕ → Reg
register_at n = slice_index_or (Reg.Eax ∷ Reg.Ebx ∷ Reg.Ecx ∷ Reg.Edx ∷ Reg.Esi ∷ Reg.Edi ∷ Reg.Ebp ∷ []) n Reg.Eax

is_register_at : (r : Reg) → register_at (reg_number r) ≡ r
is_register_at Reg.Eax = refl
is_register_at Reg.Ebx = refl
is_register_at Reg.Ecx = refl
is_register_at Reg.Edx = refl
is_register_at Reg.Esi = refl
is_register_at Reg.Edi = refl
is_register_at Reg.Ebp = refl

number_below_7 : (r : Reg) → reg_number r < 7
number_below_7 Reg.Eax = omega arith
number_below_7 Reg.Ebx = omega arith
number_below_7 Reg.Ecx = omega arith
number_below_7 Reg.Edx = omega arith
number_below_7 Reg.Esi = omega arith
number_below_7 Reg.Edi = omega arith
number_below_7 Reg.Ebp = omega arith

-- the places meet in none of the first registers
abbrev pub MeetInNone : Interface → Shape → Place → Place → ℕ → Type 0
MeetInNone i s p q count = (n : ℕ) → n < count → (at : Placement) → IsSharedIn i s p q (register_at n) at → ⊥

pub meet_in_none_more : (i : Interface) (s : Shape) (p q : Place) (count : ℕ) → MeetInNone i s p q count → ((at : Placement) → IsSharedIn i s p q (register_at count) at → ⊥) → MeetInNone i s p q (count + 1)
meet_in_none_more i s p q count before here n lt at shared = elim (cases_eq n count) [
  | inl same ↦ here at (subst (λ m. IsSharedIn i s p q (register_at m) at) same shared)
  | inr differ ↦ before n (omega arith) at shared
]

pub meet_in_none : (i : Interface) (s : Shape) (p q : Place) (count : ℕ) → 7 ≤ count → MeetInNone i s p q count → (at : Placement) → ShareRegister i s p q at → ⊥
meet_in_none i s p q count all none at shared =
    let here : register_at (reg_number shared.register) ≡ shared.register = is_register_at shared.register in
    none (reg_number shared.register) (let below = number_below_7 shared.register in omega arith) at
    (subst (λ r. IsSharedIn i s p q r at) (sym here) (record { allowed = shared.allowed; first = shared.in_first; second = shared.in_second }))

pub shared_in : (i : Interface) (s : Shape) (p q : Place) (r : Reg) (at : Placement) → IsSharedIn i s p q r at → ShareRegister i s p q at
shared_in i s p q r at shared = record { allowed = shared.allowed; register = r; in_first = shared.first; in_second = shared.second }

-- places that meet in the register, which neither is apart from
pub meets_in : (i : Interface) (s : Shape) (p q : Place) (r : Reg) → CanShareIn i s p q r → CanShare i s p q
meets_in i s p q r can = record { at = can.at; shared = shared_in i s p q r can.at can.shared }

pub apart_first : (i : Interface) (s : Shape) (p q : Place) (r : Reg) → is_other p r ≡ true → CanShareIn i s p q r → ⊥
apart_first i s p q r other can = other_apart can.at p r other can.shared.first

pub apart_second : (i : Interface) (s : Shape) (p q : Place) (r : Reg) → is_other q r ≡ true → CanShareIn i s p q r → ⊥
apart_second i s p q r other can = other_apart can.at q r other can.shared.second

-- an answer that is told in both ways
pub answers : {P Q C : Type 0} (b : Bool) → (IsTrue b → P) → (b ≡ false → Q) → (P → C) → (Q → C → ⊥) → IsTrue b ↔ C
answers true some none meets apart = ((λ is. meets (some is)), (λ can. refl))
answers false some none meets apart = ((λ is. cc), (λ can. absurd (apart (none refl) can)))

-- no register has both places
pub meets_nowhere : (i : Interface) (s : Shape) (p q : Place) (count : ℕ) → 7 ≤ count → MeetInNone i s p q count
    → CanShare i s p q → ⊥
meets_nowhere i s p q count all none can = meet_in_none i s p q count all none can.at can.shared

pub meets_nowhere_in : (i : Interface) (s : Shape) (p q : Place) (r : Reg)
    → HasNoAssignment i s (Use (asked_for i s p q r)) → CanShareIn i s p q r → ⊥
meets_nowhere_in i s p q r h can = none_shares i s p q r h can.at can.shared
