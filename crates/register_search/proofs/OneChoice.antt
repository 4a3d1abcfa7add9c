-- Classes with one choice alone, and what their rivals can't take.
use Rattle.std.proofs.Common.{◌≡◌, inl, inr, ℕ, ◌+◌, ◌<◌, ◌≤◌, List, true, false, Option, Some, None, IfSome, is_some, slice_get, bit_and, bit_or, refl, sym, ap, ◌∙◌, arith}
use Rattle.std.proofs.lemmas.Bool.{cases_eq}
use Rattle.std.proofs.lemmas.Nat.{and_or_apart, and_comm}
use Rattle.register_search.specs.Assignment.{registers_of, may_take, takes_registers, are_rivals, HasAssignment}
use Rattle.register_search.specs.Settling.{narrowed, IsOnlyChoice, IsTakenByRivals, NeedsBesides}
use Rattle.register_search.specs.declared.class.Group.{Group}
use Rattle.register_search.specs.declared.class.Group.TheVariants.{Absent, Exclusive, Numbered}
use Rattle.register_search.specs.declared.class.Class.{Class}
use Rattle.register_search.proofs.Joining.{nothing_apart}
use Rattle.register_search.proofs.Narrowing.{from_narrowed, narrowed_choice}
use Rattle.register_search.proofs.Trying.{IsTrying, refused_more}

-- none of the first n choices may be taken, or this one alone
abbrev pub IsOnlyBelow : Class → ℕ → Option ℕ → Type 0
IsOnlyBelow c n None = (other : ℕ) → other < n → may_take c other ≡ false
IsOnlyBelow c n (Some choice) = (choice < 8) × ((other : ℕ) → other < n → may_take c other ≡ true → other ≡ choice)

pub only_begun : (c : Class) → IsOnlyBelow c 0 None
only_begun c other lt = absurd (omega arith)

pub only_kept : (c : Class) (n : ℕ) (only : Option ℕ) → may_take c n ≡ false → IsOnlyBelow c n only → IsOnlyBelow c (n + 1) only
only_kept c n None may h = λ other lt. elim (cases_eq other n) [
  | inl same ↦ ap (may_take c) same ∙ may
  | inr differ ↦ h other (omega arith)
]
only_kept c n (Some choice) may h = (
  h.0,
  λ other lt may_other. elim (cases_eq other n) [
    | inl same ↦ let wrong : true ≡ false = sym may_other ∙ ap (may_take c) same ∙ may in cc
    | inr differ ↦ h.1 other (omega arith) may_other
  ],
)

only_first : (c : Class) (n : ℕ) → n < 8 → IsOnlyBelow c n None → IsOnlyBelow c (n + 1) (Some n)
only_first c n below h = (
  below,
  λ other lt may_other. elim (cases_eq other n) [
    | inl same ↦ same
    | inr differ ↦ let wrong : true ≡ false = sym may_other ∙ h other (omega arith) in cc
  ],
)

pub only_found : (c : Class) (n : ℕ) (only : Option ℕ) → is_some only ≡ false → n < 8 → IsOnlyBelow c n only → IsOnlyBelow c (n + 1) (Some n)
only_found c n None none below h = only_first c n below h
only_found c n (Some choice) none below h = cc

pub only_done : (c : Class) (n : ℕ) (only : Option ℕ) → 8 ≤ n → IsOnlyBelow c n only → IfSome only (λ choice. IsOnlyChoice c choice)
only_done c n None all h = tt
only_done c n (Some choice) all h = record { below = h.0; only = λ other lt may_other. h.1 other (omega arith) may_other }

-- ---- rivals

pub nothing_needed : (c : Class) (group : Group) → NeedsBesides c group 0
nothing_needed c group choice others beside = nothing_apart others

pub choice_needed : (c : Class) (group : Group) (choice : ℕ) → are_rivals c.group group ≡ true → IsOnlyChoice c choice → NeedsBesides c group (registers_of choice)
choice_needed c group choice rivals is other others beside =
    let b = beside rivals in
    ap (λ n. bit_and (registers_of n) others) (sym (is.only other b.below b.taken)) ∙ b.apart

rival_takes : (g h : Group) → are_rivals g h ≡ true → takes_registers g ≡ true
rival_takes Absent h e = cc
rival_takes Exclusive h e = refl
rival_takes (Numbered n) h e = refl

pub none_taken : (classes : List Class) (k : ℕ) → IsTakenByRivals classes k 0
none_taken classes k choice_of a = nothing_apart (registers_of (choice_of k))

pub more_taken : (classes : List Class) (k i : ℕ) (c d : Class) (taken more : ℕ) → slice_get classes k ≡ Some c → slice_get classes i ≡ Some d → (i ≡ k → ⊥) → NeedsBesides d c.group more
    → IsTakenByRivals classes k taken → IsTakenByRivals classes k (bit_or taken more)
more_taken classes k i c d taken more is_c is_d differ needs before choice_of a =
    and_or_apart (registers_of (choice_of k)) taken more (needs (choice_of i) (registers_of (choice_of k)) (λ rivals. record {
      below = a.below i d is_d (rival_takes d.group c.group rivals);
      taken = a.taken i d is_d (rival_takes d.group c.group rivals);
      apart = a.apart i k d c is_d is_c differ rivals;
    }))
    ∙ before choice_of a

-- a choice with a register that rivals take is refused
pub trying_taken : (old now : List Class) (k choice taken : ℕ) (c : Class) → IsTrying old now k c choice → choice < 8 → takes_registers c.group ≡ true → IsTakenByRivals old k taken
    → (bit_and (registers_of choice) taken ≡ 0 → ⊥) → IsTrying old now k c (choice + 1)
trying_taken old now k choice taken c t below takes by_rivals meets = record {
  is_class = t.is_class;
  tried = t.tried;
  is_now = t.is_now;
  refused = refused_more old k choice c t.refused refuse;
}
  where
    refuse : may_take c choice ≡ true → HasAssignment (narrowed old k c choice) → ⊥
    refuse may (choice_of, a) =
        let here = narrowed_choice old k c choice choice_of t.is_class takes below a in
        meets (and_comm (registers_of choice) taken ∙ ap (λ n. bit_and taken (registers_of n)) (sym here) ∙ by_rivals choice_of (from_narrowed old k c choice choice_of t.is_class takes below may a))
