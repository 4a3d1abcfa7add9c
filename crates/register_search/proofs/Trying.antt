-- The choices of one class tried in order, and the classes settled in order.
use Rattle.std.proofs.Common.{◌≡◌, inl, inr, ℕ, zero, suc, ◌+◌, ◌<◌, ◌≤◌, ◌==◌, List, [], ◌∷◌, length, Bool, true, false, Some, slice_get, slice_set, get_or, refl, sym, ap, subst, ◌∙◌, arith, if◌then◌else◌}
use Rattle.std.proofs.lemmas.Bool.{cases_eq, cases_lt, eq-eqb, ne_eqb}
use Rattle.std.proofs.lemmas.List.{length-set, set-get_or}
use Rattle.std.proofs.lemmas.Option.{get_or_from_slice_get, slice_get-get_or}
use Rattle.register_search.specs.Assignment.{HasFewGroups}
use Rattle.register_search.specs.Assignment.{may_take, takes_registers, IsAssignment, HasAssignment, AgreeBelow, IsSettled, with_choice}
use Rattle.register_search.specs.Settling.{narrowed, IsFirstOf}
use Rattle.register_search.specs.declared.class.Class.{Class}
use Rattle.register_search.proofs.Narrowing.{slice_get-set_same, slice_get-set_other, into_narrowed, from_narrowed, narrowed_choice, narrowed_few}

pub set-set : {A : Type 0} (xs : List A) (k : ℕ) (x y : A) → slice_set (slice_set xs k x) k y ≡ slice_set xs k y
set-set [] k x y = refl
set-set (z ∷ xs) zero x y = refl
set-set (z ∷ xs) (suc k) x y = ap (λ l. z ∷ l) (set-set xs k x y)

-- the choices before this one are refused
pub record IsTrying (old now : List Class) (k : ℕ) (c : Class) (choice : ℕ) : Type 0 where
  pub is_class : slice_get old k ≡ Some c
  pub tried : Class
  pub is_now : now ≡ slice_set old k tried
  pub refused : (other : ℕ) → other < choice → may_take c other ≡ true → HasAssignment (narrowed old k c other) → ⊥

pub refused_more : (old : List Class) (k choice : ℕ) (c : Class)
    → ((other : ℕ) → other < choice → may_take c other ≡ true → HasAssignment (narrowed old k c other) → ⊥)
    → (may_take c choice ≡ true → HasAssignment (narrowed old k c choice) → ⊥)
    → (other : ℕ) → other < choice + 1 → may_take c other ≡ true → HasAssignment (narrowed old k c other) → ⊥
refused_more old k choice c before here other lt may there = elim (cases_eq other choice) [
  | inl same ↦ here (ap (may_take c) (sym same) ∙ may) (subst (λ n. HasAssignment (narrowed old k c n)) same there)
  | inr differ ↦ before other (omega arith) may there
]

pub trying_skips : (old now : List Class) (k choice : ℕ) (c : Class) → IsTrying old now k c choice → may_take c choice ≡ false → IsTrying old now k c (choice + 1)
trying_skips old now k choice c t may = record {
  is_class = t.is_class;
  tried = t.tried;
  is_now = t.is_now;
  refused = refused_more old k choice c t.refused (λ yes there. let wrong : true ≡ false = sym yes ∙ may in cc);
}

pub now_narrowed : (old now : List Class) (k choice : ℕ) (c : Class) → IsTrying old now k c choice → slice_set now k (with_choice choice c) ≡ narrowed old k c choice
now_narrowed old now k choice c t = ap (λ l. slice_set l k (with_choice choice c)) t.is_now ∙ set-set old k t.tried (with_choice choice c)

pub trying_refuses : (old now : List Class) (k choice : ℕ) (c : Class) → IsTrying old now k c choice → (HasAssignment (slice_set now k (with_choice choice c)) → ⊥)
    → IsTrying old (slice_set now k (with_choice choice c)) k c (choice + 1)
trying_refuses old now k choice c t none = record {
  is_class = t.is_class;
  tried = with_choice choice c;
  is_now = now_narrowed old now k choice c t;
  refused = refused_more old k choice c t.refused (λ yes there. none (subst HasAssignment (sym (now_narrowed old now k choice c t)) there));
}

pub trying_ends : (old now : List Class) (k choice : ℕ) (c : Class) → IsTrying old now k c choice → choice < 8 → may_take c choice ≡ true → HasAssignment (slice_set now k (with_choice choice c))
    → IsFirstOf old (slice_set now k (with_choice choice c)) k
trying_ends old now k choice c t below may there = record {
  class = c;
  choice = choice;
  is_class = t.is_class;
  first = record { below = below; taken = may; there = subst HasAssignment (now_narrowed old now k choice c t) there; least = t.refused };
  is_new = now_narrowed old now k choice c t;
}

-- not all choices are refused
pub trying_succeeds : (old now : List Class) (k choice : ℕ) (c : Class) → IsTrying old now k c choice → 8 ≤ choice → takes_registers c.group ≡ true → HasAssignment old → ⊥
trying_succeeds old now k choice c t all takes (choice_of, a) =
    let below = a.below k c t.is_class takes in
    t.refused (choice_of k) (omega arith) (a.taken k c t.is_class takes) (choice_of, into_narrowed old k c choice_of t.is_class takes a)

-- ---- the classes in order

-- the classes below k are settled, and the assignments that are left are those with the choices of the settled ones
pub record IsSettling (old now : List Class) (k : ℕ) : Type 0 where
  pub choice_of : ℕ → ℕ
  pub few : HasFewGroups now
  pub size : length now ≡ length old
  pub rest : (i : ℕ) → k ≤ i → slice_get now i ≡ slice_get old i
  pub settled : (i : ℕ) (c : Class) → i < k → slice_get old i ≡ Some c → takes_registers c.group ≡ true → slice_get now i ≡ Some (with_choice (choice_of i) c)
  pub there : HasAssignment now
  pub wider : (other : ℕ → ℕ) → IsAssignment now other → IsAssignment old other × AgreeBelow old k other choice_of
  pub narrower : (other : ℕ → ℕ) → IsAssignment old other → AgreeBelow old k other choice_of → IsAssignment now other
  pub least : (other : ℕ → ℕ) → IsAssignment old other → (i : ℕ) (c : Class) → i < k → slice_get old i ≡ Some c → takes_registers c.group ≡ true
      → AgreeBelow old i other choice_of → choice_of i ≤ other i

pub settling_begun : (classes : List Class) → HasFewGroups classes → HasAssignment classes → IsSettling classes classes 0
settling_begun classes few there = record {
  choice_of = λ i. 0;
  few = few;
  size = refl;
  rest = λ i le. refl;
  settled = λ i c lt. absurd (omega arith);
  there = there;
  wider = λ other a. (a, λ i c lt. absurd (omega arith));
  narrower = λ other a agree. a;
  least = λ other a i c lt. absurd (omega arith);
}

one_more_agrees : (classes : List Class) (k : ℕ) (one other : ℕ → ℕ) → AgreeBelow classes k one other → ((c : Class) → slice_get classes k ≡ Some c → takes_registers c.group ≡ true → one k ≡ other k)
    → AgreeBelow classes (k + 1) one other
one_more_agrees classes k one other before here i c lt is takes = elim (cases_eq i k) [
  | inl same ↦ ap one same ∙ here c (ap (slice_get classes) (sym same) ∙ is) takes ∙ ap other (sym same)
  | inr differ ↦ before i c (omega arith) is takes
]

-- a class that takes no register
pub settling_passes : (old now : List Class) (k : ℕ) → IsSettling old now k → ((c : Class) → slice_get now k ≡ Some c → takes_registers c.group ≡ false) → IsSettling old now (k + 1)
settling_passes old now k s absent = record {
  choice_of = s.choice_of;
  few = s.few;
  size = s.size;
  rest = λ i le. s.rest i (omega arith);
  settled = λ i c lt is takes. elim (cases_eq i k) [
    | inl same ↦ absurd (never c (ap (slice_get old) (sym same) ∙ is) takes)
    | inr differ ↦ s.settled i c (omega arith) is takes
  ];
  there = s.there;
  wider = λ other a. let w = s.wider other a in (w.0, one_more_agrees old k other s.choice_of w.1 (λ c is takes. absurd (never c is takes)));
  narrower = λ other a agree. s.narrower other a (λ i c lt. agree i c (omega arith));
  least = λ other a i c lt is takes agree. elim (cases_eq i k) [
    | inl same ↦ absurd (never c (ap (slice_get old) (sym same) ∙ is) takes)
    | inr differ ↦ s.least other a i c (omega arith) is takes agree
  ];
}
  where
    never : (c : Class) → slice_get old k ≡ Some c → takes_registers c.group ≡ true → ⊥
    never c is takes = let wrong : false ≡ true = sym (absent c (s.rest k (omega arith) ∙ is)) ∙ takes in cc

abbrev updated : (ℕ → ℕ) → ℕ → ℕ → ℕ → ℕ
updated choice_of k choice i = if i == k then choice else choice_of i

updated_here : (choice_of : ℕ → ℕ) (k choice i : ℕ) → i ≡ k → updated choice_of k choice i ≡ choice
updated_here choice_of k choice i same = ap (λ b. if b then choice else choice_of i) (eq-eqb i k same)

updated_there : (choice_of : ℕ → ℕ) (k choice i : ℕ) → (i ≡ k → ⊥) → updated choice_of k choice i ≡ choice_of i
updated_there choice_of k choice i differ = ap (λ b. if b then choice else choice_of i) (ne_eqb i k differ)

-- a class that is left its first choice
pub settling_settles : (old now new : List Class) (k : ℕ) → IsSettling old now k → ((c : Class) → slice_get now k ≡ Some c → takes_registers c.group ≡ true) → IsFirstOf now new k → IsSettling old new (k + 1)
settling_settles old now new k s all_take f = subst (λ cs. IsSettling old cs (k + 1)) (sym f.is_new) made
  where
    takes : takes_registers f.class.group ≡ true
    takes = all_take f.class f.is_class

    in_old : slice_get old k ≡ Some f.class
    in_old = sym (s.rest k (omega arith)) ∙ f.is_class

    now' : ℕ → ℕ
    now' = updated s.choice_of k f.choice

    class_of : (c : Class) → slice_get old k ≡ Some c → c ≡ f.class
    class_of c is = let both : Some c ≡ Some f.class = sym is ∙ in_old in cc

    -- below k the updated choices are the former ones
    agree_before : (i : ℕ) → i ≤ k → (other : ℕ → ℕ) → AgreeBelow old i other now' → AgreeBelow old i other s.choice_of
    agree_before i le other agree j c lt is takes = agree j c lt is takes ∙ updated_there s.choice_of k f.choice j (λ e. omega arith)

    agree_after : (other : ℕ → ℕ) → AgreeBelow old k other s.choice_of → other k ≡ f.choice → AgreeBelow old (k + 1) other now'
    agree_after other agree here = one_more_agrees old k other now' (λ j c lt is takes. agree j c lt is takes ∙ sym (updated_there s.choice_of k f.choice j (λ e. omega arith)))
        (λ c is takes. here ∙ sym (updated_here s.choice_of k f.choice k refl))

    made : IsSettling old (narrowed now k f.class f.choice) (k + 1)
    made = record {
      choice_of = now';
      few = narrowed_few now k f.class f.choice f.is_class s.few;
      size = length-set now k (with_choice f.choice f.class) ∙ s.size;
      rest = λ i le. slice_get-set_other now k i (with_choice f.choice f.class) (λ e. omega arith) ∙ s.rest i (omega arith);
      settled = λ i c lt is takes. elim (cases_eq i k) [
        | inl same ↦ ap (slice_get (narrowed now k f.class f.choice)) same ∙ slice_get-set_same now k f.class (with_choice f.choice f.class) f.is_class
            ∙ ap (λ x. Some (with_choice f.choice x)) (sym (class_of c (ap (slice_get old) (sym same) ∙ is))) ∙ ap (λ n. Some (with_choice n c)) (sym (updated_here s.choice_of k f.choice i same))
        | inr differ ↦ slice_get-set_other now k i (with_choice f.choice f.class) differ ∙ s.settled i c (omega arith) is takes
            ∙ ap (λ n. Some (with_choice n c)) (sym (updated_there s.choice_of k f.choice i differ))
      ];
      there = f.first.there;
      wider = λ other a.
          let w = s.wider other (from_narrowed now k f.class f.choice other f.is_class takes f.first.below f.first.taken a) in
          (w.0, agree_after other w.1 (narrowed_choice now k f.class f.choice other f.is_class takes f.first.below a));
      narrower = λ other a agree.
          let before = s.narrower other a (agree_before k (omega arith) other (λ j c lt. agree j c (omega arith))) in
          let here : other k ≡ f.choice = agree k f.class (omega arith) in_old takes ∙ updated_here s.choice_of k f.choice k refl in
          subst (λ n. IsAssignment (narrowed now k f.class n) other) here (into_narrowed now k f.class other f.is_class takes before);
      least = λ other a i c lt is takes_c agree. elim (cases_eq i k) [
        | inl same ↦ least_here other a c i same is agree
        | inr differ ↦ subst (λ n. n ≤ other i) (sym (updated_there s.choice_of k f.choice i differ)) (s.least other a i c (omega arith) is takes_c (agree_before i (omega arith) other agree))
      ];
    }
      where
        least_here : (other : ℕ → ℕ) → IsAssignment old other → (c : Class) (i : ℕ) → i ≡ k → slice_get old i ≡ Some c → AgreeBelow old i other now' → now' i ≤ other i
        least_here other a c i same is agree =
            let before = s.narrower other a (agree_before k (omega arith) other (subst (λ n. AgreeBelow old n other now') same agree)) in
            let narrow = into_narrowed now k f.class other f.is_class takes before in
            let le : f.choice ≤ other k = elim (cases_lt (other k) f.choice) [
              | inl lt ↦ absurd (f.first.least (other k) lt (before.taken k f.class f.is_class takes) (other, narrow))
              | inr le ↦ le
            ] in
            let now_is = updated_here s.choice_of k f.choice i same in
            let other_is : other k ≡ other i = ap other (sym same) in
            omega arith

slice_get-inside : {A : Type 0} (xs : List A) (i : ℕ) (x : A) → slice_get xs i ≡ Some x → i < length xs
slice_get-inside [] i x h = cc
slice_get-inside (y ∷ xs) zero x h = omega arith
slice_get-inside (y ∷ xs) (suc i) x h = let lt = slice_get-inside xs i x h in omega arith

pub settling_done : (old now : List Class) (k : ℕ) → IsSettling old now k → length old ≤ k → IsSettled old now
settling_done old now k s all = record {
  choice_of = s.there.0;
  least = record {
    assigned = w.0;
    least = λ other a i c is takes agree.
        let here = w.1 i c (inside i c is) is takes in
        let le = s.least other a i c (inside i c is) is takes (λ j d lt is_d takes_d. agree j d lt is_d takes_d ∙ w.1 j d (inside j d is_d) is_d takes_d) in
        omega arith;
  };
  size = s.size;
  settled = λ i c is takes. s.settled i c (inside i c is) is takes ∙ ap (λ n. Some (with_choice n c)) (sym (w.1 i c (inside i c is) is takes));
}
  where
    w : IsAssignment old s.there.0 × AgreeBelow old k s.there.0 s.choice_of
    w = s.wider s.there.0 s.there.1

    inside : (i : ℕ) (c : Class) → slice_get old i ≡ Some c → i < k
    inside i c is = let lt = slice_get-inside old i c is in omega arith

-- what holds of the class that is read holds of class k
pub class_at : (classes : List Class) (k : ℕ) (default c : Class) (b : Bool) → slice_get classes k ≡ Some c → takes_registers (get_or classes k default).group ≡ b → takes_registers c.group ≡ b
class_at classes k default c b is h = ap (λ (x : Class). takes_registers x.group) (sym (get_or_from_slice_get classes k c default is)) ∙ h

pub trying_begun : (classes : List Class) (k : ℕ) (default : Class) → k < length classes → IsTrying classes classes k (get_or classes k default) 0
trying_begun classes k default inside = record {
  is_class = slice_get-get_or classes k default inside;
  tried = get_or classes k default;
  is_now = sym (set-get_or classes k default);
  refused = λ other lt. absurd (omega arith);
}
