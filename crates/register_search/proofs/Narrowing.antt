-- Assignments of classes of which one is left a single choice.
use Rattle.std.proofs.Common.{◌≡◌, ◌⊎◌, inl, inr, ℕ, zero, suc, ◌<◌, List, [], ◌∷◌, true, false, Some, slice_get, slice_set, slice_index_or, replicate, refl, sym, ap, ◌∙◌}
use Rattle.std.proofs.lemmas.Bool.{cases_eq}
use Rattle.std.proofs.lemmas.List.{get_or-set_other, get_or-replicate}
use Rattle.register_search.specs.Assignment.{HasFewGroups}
use Rattle.register_search.proofs.FewGroups.{few_groups, numbers_below}
use Rattle.register_search.specs.Assignment.{may_take, takes_registers, are_rivals, IsAssignment, with_choice}
use Rattle.register_search.specs.Settling.{narrowed}
use Rattle.register_search.specs.declared.class.Class.{Class}
use Rattle.register_search.proofs.Sets.{each_choice}

pub slice_get-set_same : {A : Type 0} (xs : List A) (i : ℕ) (x y : A) → slice_get xs i ≡ Some x → slice_get (slice_set xs i y) i ≡ Some y
slice_get-set_same [] i x y h = cc
slice_get-set_same (z ∷ xs) zero x y h = refl
slice_get-set_same (z ∷ xs) (suc i) x y h = slice_get-set_same xs i x y h

pub slice_get-set_other : {A : Type 0} (xs : List A) (i j : ℕ) (y : A) → (j ≡ i → ⊥) → slice_get (slice_set xs i y) j ≡ slice_get xs j
slice_get-set_other [] i j y h = refl
slice_get-set_other (z ∷ xs) zero zero y h = absurd (h refl)
slice_get-set_other (z ∷ xs) zero (suc j) y h = refl
slice_get-set_other (z ∷ xs) (suc i) zero y h = refl
slice_get-set_other (z ∷ xs) (suc i) (suc j) y h = slice_get-set_other xs i j y (λ e. h (ap suc e))

-- the one choice that is left
only_itself : (choice : ℕ) → choice < 8 → slice_index_or (slice_set (replicate 8 false) choice true) choice false ≡ true
only_itself choice below = each_choice (λ k. slice_index_or (slice_set (replicate 8 false) k true) k false ≡ true) refl refl refl refl refl refl refl refl choice below

abbrev IsOnly : ℕ → Type 0
IsOnly choice = (other : ℕ) → other < 8 → slice_index_or (slice_set (replicate 8 false) choice true) other false ≡ true → other ≡ choice

no_other : (choice : ℕ) → choice < 8 → IsOnly choice
no_other choice below = each_choice IsOnly (at 0) (at 1) (at 2) (at 3) (at 4) (at 5) (at 6) (at 7) choice below
  where
    at : (choice other : ℕ) → other < 8 → slice_index_or (slice_set (replicate 8 false) choice true) other false ≡ true → other ≡ choice
    at choice other lt h = elim (cases_eq other choice) [
      | inl same ↦ same
      | inr different ↦ let wrong : false ≡ true = sym (get_or-set_other (replicate 8 false) choice other true false different ∙ get_or-replicate 8 other false false lt) ∙ h in cc
    ]

pub takes_only : (c : Class) (choice : ℕ) → choice < 8 → may_take (with_choice choice c) choice ≡ true
takes_only c choice below = only_itself choice below

pub takes_no_other : (c : Class) (choice other : ℕ) → choice < 8 → other < 8 → may_take (with_choice choice c) other ≡ true → other ≡ choice
takes_no_other c choice other below lt h = no_other choice below other lt h

-- what class j is before class k is narrowed: the same, or class k with more choices
record WasClass (classes : List Class) (k : ℕ) (c : Class) (choice j : ℕ) (d : Class) : Type 0 where
  before : Class
  is_before : slice_get classes j ≡ Some before
  same_group : before.group ≡ d.group
  kept : ((j ≡ k) × (before ≡ c) × (d ≡ with_choice choice c)) ⊎ ((j ≡ k → ⊥) × (before ≡ d))

was_class : (classes : List Class) (k : ℕ) (c : Class) (choice j : ℕ) (d : Class) → slice_get classes k ≡ Some c → slice_get (narrowed classes k c choice) j ≡ Some d → WasClass classes k c choice j d
was_class classes k c choice j d is_c is_d = elim (cases_eq j k) [
  | inl same ↦ let d_is : Some d ≡ Some (with_choice choice c) = sym is_d ∙ ap (slice_get (narrowed classes k c choice)) same ∙ slice_get-set_same classes k c (with_choice choice c) is_c in
      let e : d ≡ with_choice choice c = cc in
      record { before = c; is_before = ap (slice_get classes) same ∙ is_c; same_group = ap (λ (x : Class). x.group) (sym e); kept = inl (same, refl, e) }
  | inr other ↦ record { before = d; is_before = sym (slice_get-set_other classes k j (with_choice choice c) other) ∙ is_d; same_group = refl; kept = inr (other, refl) }
]

rivals_before : (b d e f : Class) → b.group ≡ d.group → e.group ≡ f.group → are_rivals d.group f.group ≡ true → are_rivals b.group e.group ≡ true
rivals_before b d e f p q h = ap (λ g. are_rivals g e.group) p ∙ ap (are_rivals d.group) q ∙ h

-- an assignment of all is one of those left with its choice
pub into_narrowed : (classes : List Class) (k : ℕ) (c : Class) (choice_of : ℕ → ℕ) → slice_get classes k ≡ Some c → takes_registers c.group ≡ true → IsAssignment classes choice_of
    → IsAssignment (narrowed classes k c (choice_of k)) choice_of
into_narrowed classes k c choice_of is takes a = record {
  below = λ j d is_d takes_d. let w = was_class classes k c (choice_of k) j d is is_d in a.below j w.before w.is_before (ap takes_registers w.same_group ∙ takes_d);
  taken = λ j d is_d takes_d. let w = was_class classes k c (choice_of k) j d is is_d in
      elim w.kept [
        | inl here ↦ ap (λ x. may_take x (choice_of j)) here.2 ∙ ap (λ n. may_take (with_choice (choice_of k) c) (choice_of n)) here.0 ∙ takes_only c (choice_of k) (a.below k c is takes)
        | inr there ↦ ap (λ x. may_take x (choice_of j)) (sym there.1) ∙ a.taken j w.before w.is_before (ap takes_registers w.same_group ∙ takes_d)
      ];
  apart = λ i j d e is_d is_e differ rivals.
      let w = was_class classes k c (choice_of k) i d is is_d in
      let v = was_class classes k c (choice_of k) j e is is_e in
      a.apart i j w.before v.before w.is_before v.is_before differ (rivals_before w.before d v.before e w.same_group v.same_group rivals);
}

-- what class j becomes
record IsClassNow (classes : List Class) (k : ℕ) (c : Class) (choice j : ℕ) (d : Class) : Type 0 where
  now : Class
  is_now : slice_get (narrowed classes k c choice) j ≡ Some now
  same_group : now.group ≡ d.group
  kept : ((j ≡ k) × (d ≡ c) × (now ≡ with_choice choice c)) ⊎ ((j ≡ k → ⊥) × (now ≡ d))

class_now : (classes : List Class) (k : ℕ) (c : Class) (choice j : ℕ) (d : Class) → slice_get classes k ≡ Some c → slice_get classes j ≡ Some d → IsClassNow classes k c choice j d
class_now classes k c choice j d is_c is_d = elim (cases_eq j k) [
  | inl same ↦ let both : Some d ≡ Some c = sym is_d ∙ ap (slice_get classes) same ∙ is_c in
      let e : d ≡ c = cc in
      record { now = with_choice choice c; is_now = ap (slice_get (narrowed classes k c choice)) same ∙ slice_get-set_same classes k c (with_choice choice c) is_c; same_group = ap (λ (x : Class). x.group) (sym e); kept = inl (same, e, refl) }
  | inr other ↦ record { now = d; is_now = slice_get-set_other classes k j (with_choice choice c) other ∙ is_d; same_group = refl; kept = inr (other, refl) }
]

-- the choice that is left is taken
pub narrowed_choice : (classes : List Class) (k : ℕ) (c : Class) (choice : ℕ) (choice_of : ℕ → ℕ) → slice_get classes k ≡ Some c → takes_registers c.group ≡ true → choice < 8
    → IsAssignment (narrowed classes k c choice) choice_of → choice_of k ≡ choice
narrowed_choice classes k c choice choice_of is takes below a =
    let here = slice_get-set_same classes k c (with_choice choice c) is in
    takes_no_other c choice (choice_of k) below (a.below k (with_choice choice c) here takes) (a.taken k (with_choice choice c) here takes)

-- an assignment of those left is one of all
pub from_narrowed : (classes : List Class) (k : ℕ) (c : Class) (choice : ℕ) (choice_of : ℕ → ℕ) → slice_get classes k ≡ Some c → takes_registers c.group ≡ true → choice < 8 → may_take c choice ≡ true
    → IsAssignment (narrowed classes k c choice) choice_of → IsAssignment classes choice_of
from_narrowed classes k c choice choice_of is takes below may a = record {
  below = λ j d is_d takes_d. let w = class_now classes k c choice j d is is_d in a.below j w.now w.is_now (ap takes_registers w.same_group ∙ takes_d);
  taken = λ j d is_d takes_d. let w = class_now classes k c choice j d is is_d in
      elim w.kept [
        | inl here ↦ ap (λ x. may_take x (choice_of j)) here.1 ∙ ap (may_take c) (ap choice_of here.0 ∙ narrowed_choice classes k c choice choice_of is takes below a) ∙ may
        | inr there ↦ ap (λ x. may_take x (choice_of j)) (sym there.1) ∙ a.taken j w.now w.is_now (ap takes_registers w.same_group ∙ takes_d)
      ];
  apart = λ i j d e is_d is_e differ rivals.
      let w = class_now classes k c choice i d is is_d in
      let v = class_now classes k c choice j e is is_e in
      a.apart i j w.now v.now w.is_now v.is_now differ (rivals_before w.now d v.now e w.same_group v.same_group rivals);
}

-- groups stay as they are
pub narrowed_few : (classes : List Class) (k : ℕ) (c : Class) (choice : ℕ) → slice_get classes k ≡ Some c → HasFewGroups classes → HasFewGroups (narrowed classes k c choice)
narrowed_few classes k c choice is few =
    few_groups (narrowed classes k c choice) (λ j d g is_d group. let w = was_class classes k c choice j d is is_d in numbers_below classes few j w.before g w.is_before (w.same_group ∙ group))
