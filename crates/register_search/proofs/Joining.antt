-- An assignment of all classes exists exactly where the exclusive ones can be placed so that each numbered group can.
use Rattle.std.proofs.Common.{min, ◌≡◌, ◌≢◌, inl, inr, ℕ, ◌<◌, List, true, Option, None, Some, slice_get, bit_and, refl, sym, ap, subst, ◌∙◌, arith}
use Rattle.std.specs.Int.{bit_at}
use Rattle.std.proofs.Math.Nat.{zero-min}
use Rattle.std.proofs.lemmas.Nat.{and_comm}
use Rattle.std.proofs.lemmas.Nat.Bits.{bit_at_and, bit_at-zero, same_from_bits}
use Rattle.std.proofs.lemmas.Bool.{eqb-true, eq-eqb, cases_lt}
use Rattle.register_search.proofs.FewGroups.{AreNumbersBelow}
use Rattle.register_search.specs.Assignment.{registers_of, may_take, takes_registers, are_rivals, IsAssignment, HasAssignment}
use Rattle.register_search.specs.Table.{is_same, leads_all, leads_numbered, always}
use Rattle.register_search.specs.declared.class.Group.{Group}
use Rattle.register_search.specs.declared.class.Group.TheVariants.{Absent, Exclusive, Numbered}
use Rattle.register_search.specs.declared.class.Class.{Class}
use Rattle.register_search.proofs.Placing.{IsPlaced, found, placed_leads, taken_by, taken_apart, apart_from_taken, all_at, all_from}

-- ---- from an assignment

same_takes : (g h : Group) → is_same g h ≡ true → takes_registers h ≡ true
same_takes Absent h e = cc
same_takes Exclusive Absent e = cc
same_takes Exclusive Exclusive e = refl
same_takes Exclusive (Numbered n) e = cc
same_takes (Numbered m) Absent e = cc
same_takes (Numbered m) Exclusive e = cc
same_takes (Numbered m) (Numbered n) e = refl

same_rivals : (g h k : Group) → is_same g h ≡ true → is_same g k ≡ true → are_rivals h k ≡ true
same_rivals Absent h k e f = cc
same_rivals Exclusive Absent k e f = cc
same_rivals Exclusive Exclusive Absent e f = cc
same_rivals Exclusive Exclusive Exclusive e f = refl
same_rivals Exclusive Exclusive (Numbered n) e f = cc
same_rivals Exclusive (Numbered n) k e f = cc
same_rivals (Numbered m) Absent k e f = cc
same_rivals (Numbered m) Exclusive k e f = cc
same_rivals (Numbered m) (Numbered n) Absent e f = cc
same_rivals (Numbered m) (Numbered n) Exclusive e f = cc
same_rivals (Numbered m) (Numbered n) (Numbered o) e f = eq-eqb n o (sym (eqb-true m n e) ∙ eqb-true m o f)

exclusive_rivals : (m : ℕ) (g h : Group) → is_same Exclusive g ≡ true → is_same (Numbered m) h ≡ true → are_rivals g h ≡ true
exclusive_rivals m Absent h e f = cc
exclusive_rivals m Exclusive Absent e f = cc
exclusive_rivals m Exclusive Exclusive e f = refl
exclusive_rivals m Exclusive (Numbered n) e f = refl
exclusive_rivals m (Numbered n) h e f = cc

other_group : (m : ℕ) (g : Group) → is_same Exclusive g ≡ true → is_same (Numbered m) g ≡ true → ⊥
other_group m Absent e f = cc
other_group m Exclusive e f = cc
other_group m (Numbered n) e f = cc

group_placed : (group : Group) (classes : List Class) (choice_of : ℕ → ℕ) (set : ℕ) → IsAssignment classes choice_of
    → ((k : ℕ) (c : Class) → slice_get classes k ≡ Some c → is_same group c.group ≡ true → bit_and set (registers_of (choice_of k)) ≡ 0) → IsPlaced group classes choice_of set
group_placed group classes choice_of set a clear = record {
  below = λ k c is same. a.below k c is (same_takes group c.group same);
  taken = λ k c is same. a.taken k c is (same_takes group c.group same);
  clear = clear;
  apart = λ k j c d is_c is_d differ same_c same_d. a.apart k j c d is_c is_d differ (same_rivals group c.group d.group same_c same_d);
}

pub nothing_apart : (n : ℕ) → bit_and 0 n ≡ 0
nothing_apart n = same_from_bits (bit_and 0 n) 0 (λ i. bit_at_and 0 n i ∙ ap (λ x. min x (bit_at n i)) (bit_at-zero i) ∙ zero-min (bit_at n i) ∙ sym (bit_at-zero i))

pub assignment_leads : (classes : List Class) → HasAssignment classes → leads_all Exclusive classes (leads_numbered classes) 0 ≡ true
assignment_leads classes (choice_of, a) =
    placed_leads Exclusive classes (leads_numbered classes) 0 choice_of (group_placed Exclusive classes choice_of 0 a (λ k c is same. nothing_apart (registers_of (choice_of k))))
    (all_from 32 (λ number. leads_all (Numbered number) classes always set) each_number)
  where
    set : ℕ
    set = taken_by Exclusive classes choice_of 0

    clear : (m k : ℕ) (c : Class) → slice_get classes k ≡ Some c → is_same (Numbered m) c.group ≡ true → bit_and set (registers_of (choice_of k)) ≡ 0
    clear m k c is same = apart_from_taken Exclusive classes choice_of 0 (registers_of (choice_of k)) (nothing_apart (registers_of (choice_of k)))
        (λ j d is_d same_d. a.apart j k d c is_d is (λ e. other_group m c.group (let both : d ≡ c = cc in ap (λ (x : Class). is_same Exclusive x.group) (sym both) ∙ same_d) same)
        (exclusive_rivals m d.group c.group same_d same))

    each_number : (m : ℕ) → m < 32 → leads_all (Numbered m) classes always set ≡ true
    each_number m below = placed_leads (Numbered m) classes always set choice_of (group_placed (Numbered m) classes choice_of set a (clear m)) refl

-- ---- to an assignment

-- the choices of each numbered group
record IsGroup (classes : List Class) (set m : ℕ) : Type 0 where
  choice_of : ℕ → ℕ
  placed : m < 32 → IsPlaced (Numbered m) classes choice_of set

group_of : (classes : List Class) (set m : ℕ) → leads_numbered classes set ≡ true → IsGroup classes set m
group_of classes set m h = elim (cases_lt m 32) [
  | inl below ↦ let f = found (Numbered m) classes always set (all_at 32 (λ number. leads_all (Numbered number) classes always set) h m below) in record { choice_of = f.choice_of; placed = λ b. f.placed }
  | inr above ↦ record { choice_of = λ k. 0; placed = λ b. absurd (omega arith) }
]

choice_in : (ℕ → ℕ) → (ℕ → ℕ → ℕ) → Group → ℕ → ℕ
choice_in exclusive numbered Absent k = 0
choice_in exclusive numbered Exclusive k = exclusive k
choice_in exclusive numbered (Numbered m) k = numbered m k

abbrev choice_at : (ℕ → ℕ) → (ℕ → ℕ → ℕ) → Option Class → ℕ → ℕ
choice_at exclusive numbered None k = 0
choice_at exclusive numbered (Some c) k = choice_in exclusive numbered c.group k

module _ (classes : List Class) (few : AreNumbersBelow classes) (exclusive : ℕ → ℕ) (placed : IsPlaced Exclusive classes exclusive 0)
    (numbered : (m : ℕ) → IsGroup classes (taken_by Exclusive classes exclusive 0) m) where
  in_group : Group → ℕ → ℕ
  in_group g k = choice_in exclusive (λ m. (numbered m).choice_of) g k

  joined : ℕ → ℕ
  joined k = choice_at exclusive (λ m. (numbered m).choice_of) (slice_get classes k) k

  joined_is : (k : ℕ) (c : Class) (g : Group) → slice_get classes k ≡ Some c → c.group ≡ g → joined k ≡ in_group g k
  unfolding joined in_group
  joined_is k c g is e = ap (λ o. choice_at exclusive (λ m. (numbered m).choice_of) o k) is ∙ ap (λ g. choice_in exclusive (λ m. (numbered m).choice_of) g k) e

  is_exclusive : (c : Class) → c.group ≡ Exclusive → is_same Exclusive c.group ≡ true
  is_exclusive c e = ap (is_same Exclusive) e

  is_numbered : (c : Class) (m : ℕ) → c.group ≡ Numbered m → is_same (Numbered m) c.group ≡ true
  is_numbered c m e = ap (is_same (Numbered m)) e ∙ eq-eqb m m refl

  of_group : (k : ℕ) (c : Class) (m : ℕ) → slice_get classes k ≡ Some c → c.group ≡ Numbered m → IsPlaced (Numbered m) classes (numbered m).choice_of (taken_by Exclusive classes exclusive 0)
  of_group k c m is e = (numbered m).placed (few k c m is e)

  below : (k : ℕ) (c : Class) (g : Group) → slice_get classes k ≡ Some c → c.group ≡ g → takes_registers g ≡ true → in_group g k < 8
  unfolding in_group choice_in
  below k c Absent is e takes = cc
  below k c Exclusive is e takes = placed.below k c is (is_exclusive c e)
  below k c (Numbered m) is e takes = (of_group k c m is e).below k c is (is_numbered c m e)

  taken : (k : ℕ) (c : Class) (g : Group) → slice_get classes k ≡ Some c → c.group ≡ g → takes_registers g ≡ true → may_take c (in_group g k) ≡ true
  unfolding in_group choice_in
  taken k c Absent is e takes = cc
  taken k c Exclusive is e takes = placed.taken k c is (is_exclusive c e)
  taken k c (Numbered m) is e takes = (of_group k c m is e).taken k c is (is_numbered c m e)

  -- a class of a numbered group is apart from the exclusive ones
  from_exclusive : (k j m : ℕ) (c d : Class) → slice_get classes k ≡ Some c → slice_get classes j ≡ Some d → c.group ≡ Exclusive → d.group ≡ Numbered m
      → bit_and (registers_of (exclusive k)) (registers_of ((numbered m).choice_of j)) ≡ 0
  from_exclusive k j m c d is_c is_d e f =
      (taken_apart Exclusive classes exclusive 0 (registers_of ((numbered m).choice_of j)) ((of_group j d m is_d f).clear j d is_d (is_numbered d m f))).from_each k c is_c (is_exclusive c e)

  apart : (k j : ℕ) (c d : Class) (g h : Group) → slice_get classes k ≡ Some c → slice_get classes j ≡ Some d → k ≢ j → c.group ≡ g → d.group ≡ h → are_rivals g h ≡ true
      → bit_and (registers_of (in_group g k)) (registers_of (in_group h j)) ≡ 0
  unfolding in_group choice_in
  apart k j c d Absent h is_c is_d differ e f rivals = cc
  apart k j c d Exclusive Absent is_c is_d differ e f rivals = cc
  apart k j c d Exclusive Exclusive is_c is_d differ e f rivals = placed.apart k j c d is_c is_d differ (is_exclusive c e) (is_exclusive d f)
  apart k j c d Exclusive (Numbered m) is_c is_d differ e f rivals = from_exclusive k j m c d is_c is_d e f
  apart k j c d (Numbered m) Absent is_c is_d differ e f rivals = cc
  apart k j c d (Numbered m) Exclusive is_c is_d differ e f rivals =
      and_comm (registers_of ((numbered m).choice_of k)) (registers_of (exclusive j)) ∙ from_exclusive j k m d c is_d is_c f e
  apart k j c d (Numbered m) (Numbered n) is_c is_d differ e f rivals =
      let same : n ≡ m = sym (eqb-true m n rivals) in
      ap (λ x. bit_and (registers_of ((numbered m).choice_of k)) (registers_of ((numbered x).choice_of j))) same
      ∙ (of_group k c m is_c e).apart k j c d is_c is_d differ (is_numbered c m e) (is_numbered d m (f ∙ ap Numbered same))

  joined_assigns : IsAssignment classes joined
  joined_assigns = record {
    below = λ k c is takes. subst (λ n. n < 8) (sym (joined_is k c c.group is refl)) (below k c c.group is refl takes);
    taken = λ k c is takes. ap (may_take c) (joined_is k c c.group is refl) ∙ taken k c c.group is refl takes;
    apart = λ k j c d is_c is_d differ rivals. ap (λ n. bit_and (registers_of n) (registers_of (joined j))) (joined_is k c c.group is_c refl)
        ∙ ap (λ n. bit_and (registers_of (in_group c.group k)) (registers_of n)) (joined_is j d d.group is_d refl)
        ∙ apart k j c d c.group d.group is_c is_d differ refl refl rivals;
  }

pub leading_assigned : (classes : List Class) → AreNumbersBelow classes → leads_all Exclusive classes (leads_numbered classes) 0 ≡ true → HasAssignment classes
leading_assigned classes few h =
    let f = found Exclusive classes (leads_numbered classes) 0 h in (
      joined classes few f.choice_of f.placed (λ m. group_of classes (taken_by Exclusive classes f.choice_of 0) m f.ends),
      joined_assigns classes few f.choice_of f.placed (λ m. group_of classes (taken_by Exclusive classes f.choice_of 0) m f.ends),
    )
