-- The choices that settled classes are left, and the numbers of groups.
use Rattle.std.proofs.Common.{◌≡◌, ℕ, ◌+◌, ◌<◌, List, Bool, true, false, Some, slice_get, slice_set, replicate, unwrap_or, bit_and, refl, sym, ap, subst, ◌∙◌, arith}
use Rattle.std.specs.List.{position_from}
use Rattle.register_search.specs.Assignment.{takes_registers, may_take, registers_of, IsLeast, IsSettled, HasFewGroups}
use Rattle.register_search.specs.declared.class.Class.{Class}
use Rattle.register_search.specs.declared.class.Group.TheVariants.{Numbered}
use Rattle.register_search.proofs.Sets.{each_choice}
use Rattle.register_search.proofs.FewGroups.{few_groups}
use Rattle.asm_core.specs.declared.shape.Shape.{Shape}
use Rattle.asm_core.specs.declared.interface.Interface.{Interface}
use Rattle.asm_places.specs.Classes.{group_for, AreClasses}
use Rattle.asm_places.specs.Placing.{choice_left, left_in}
use Rattle.asm_places.specs.declared.goal.Goal.{Goal}
use Rattle.asm_places.specs.declared.goal.Goal.TheVariants.{Room, Use}
use Rattle.asm_places.proofs.FromPlacement.{rival_takes}
use Rattle.asm_places.proofs.Takers.{taker, taker_group, early_kind, output_kind, input_kind}

number_small : (goal : Goal) (k : ℕ) (e o h : Bool) (g : ℕ) → k < 30 → group_for goal k e o h ≡ Numbered g → g < 32
number_small Room k true o h g below e = cc
number_small Room k false true true g below e = cc
number_small Room k false true false g below e = let same : 0 ≡ g = cc in omega arith
number_small Room k false false h g below e = let same : 1 ≡ g = cc in omega arith
number_small (Use a) k true o h g below e = cc
number_small (Use a) k false true h g below e = let same : 0 ≡ g = cc in omega arith
number_small (Use a) k false false h g below e = let same : 2 + k ≡ g = cc in omega arith

pub classes_few : (i : Interface) (s : Shape) (goal : Goal) (classes : List Class) → AreClasses i s goal classes → HasFewGroups classes
classes_few i s goal classes are = few_groups classes (λ k c g is e.
    let takes : takes_registers c.group ≡ true = ap takes_registers e in
    let t = taker i s goal classes k c are is takes in
    let x = t.operand in
    number_small goal k (early_kind x x.kind) (output_kind x x.kind) (input_kind i s k x x.kind) g t.inside (sym (taker_group i s goal k c t takes) ∙ e))

abbrev IsLeft : ℕ → Type 0
IsLeft j = unwrap_or (position_from (λ b. b) 0 (slice_set (replicate 8 false) j true)) 0 ≡ j

pub left_is : (old new : List Class) → (settled : IsSettled old new) → (k : ℕ) (c : Class) → slice_get old k ≡ Some c → takes_registers c.group ≡ true → left_in new k ≡ settled.choice_of k
left_is old new settled k c is takes =
    ap choice_left (settled.settled k c is takes) ∙ each_choice IsLeft refl refl refl refl refl refl refl refl (settled.choice_of k) (settled.least.assigned.below k c is takes)

-- an assignment is told by the classes that take registers
pub least_agrees : (classes : List Class) (choice_of other_of : ℕ → ℕ) → IsLeast classes choice_of → ((k : ℕ) (c : Class) → slice_get classes k ≡ Some c → takes_registers c.group ≡ true → other_of k ≡ choice_of k)
    → IsLeast classes other_of
least_agrees classes choice_of other_of l same = record {
  assigned = record {
    below = λ k c is takes. subst (λ n. n < 8) (sym (same k c is takes)) (l.assigned.below k c is takes);
    taken = λ k c is takes. ap (may_take c) (same k c is takes) ∙ l.assigned.taken k c is takes;
    apart = λ k j c d is_c is_d differ rivals.
        let both = rival_takes c.group d.group rivals in
        ap (λ n. bit_and (registers_of n) (registers_of (other_of j))) (same k c is_c both.0) ∙ ap (λ n. bit_and (registers_of (choice_of k)) (registers_of n)) (same j d is_d both.1)
        ∙ l.assigned.apart k j c d is_c is_d differ rivals;
  };
  least = λ another a k c is takes agree.
      let le = l.least another a k c is takes (λ j d lt is_d takes_d. agree j d lt is_d takes_d ∙ same j d is_d takes_d) in
      let here = same k c is takes in
      omega arith;
}
