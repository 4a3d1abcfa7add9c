-- A group's classes can be placed exactly where an assignment of them exists.
use Rattle.std.proofs.Common.{◌≡◌, ◌≢◌, min, max, inl, inr, ℕ, zero, suc, ◌<◌, ◌&&◌, List, [], ◌∷◌, Bool, true, false, Some, slice_get, slice_index_or, bit_and, bit_or, refl, sym, ap, ◌∙◌, arith, if◌then◌else◌}
use Rattle.std.proofs.lemmas.Nat.{and_or_apart, and_comm}
use Rattle.std.proofs.Math.Nat.{max_comm}
use Rattle.std.proofs.lemmas.Nat.Bits.{bit_at_and, bit_at_or, bit_at-zero, same_from_bits}
use Rattle.std.proofs.lemmas.Bool.{and_parts, and_from, or_cases, or_left, or_right, eqb-true, eq-eqb, cases_eq}
use Rattle.std.specs.Int.{bit_at}
use Rattle.register_search.specs.Assignment.{registers_of, may_take}
use Rattle.register_search.specs.Table.{are_apart, some_below, all_below, leads_by, leads, is_same, through, leads_all}
use Rattle.register_search.specs.declared.class.Group.{Group}
use Rattle.register_search.specs.declared.class.Class.{Class}

pub record Witness (n : ℕ) (test : ℕ → Bool) : Type 0 where
  pub it : ℕ
  pub below : it < n
  pub passes : test it ≡ true

pub some_of : (n : ℕ) (test : ℕ → Bool) → some_below n test ≡ true → Witness n test
unfolding some_below
some_of zero test h = cc
some_of (suc n) test h = elim (or_cases (some_below n test) (test n) h) [
  | inl before ↦ let w = some_of n test before in record { it = w.it; below = let b = w.below in omega arith; passes = w.passes }
  | inr here ↦ record { it = n; below = omega arith; passes = here }
]

pub some_from : (n : ℕ) (test : ℕ → Bool) (k : ℕ) → k < n → test k ≡ true → some_below n test ≡ true
unfolding some_below
some_from zero test k lt h = absurd (omega arith)
some_from (suc n) test k lt h = elim (cases_eq k n) [
  | inl same ↦ or_right (some_below n test) (test n) (ap test (sym same) ∙ h)
  | inr other ↦ or_left (some_below n test) (test n) (some_from n test k (omega arith) h)
]

pub all_at : (n : ℕ) (test : ℕ → Bool) → all_below n test ≡ true → (k : ℕ) → k < n → test k ≡ true
unfolding all_below
all_at zero test h k lt = absurd (omega arith)
all_at (suc n) test h k lt = elim (cases_eq k n) [
  | inl same ↦ ap test same ∙ (and_parts (all_below n test) (test n) h).1
  | inr other ↦ all_at n test (and_parts (all_below n test) (test n) h).0 k (omega arith)
]

pub all_from : (n : ℕ) (test : ℕ → Bool) → ((k : ℕ) → k < n → test k ≡ true) → all_below n test ≡ true
unfolding all_below
all_from zero test h = refl
all_from (suc n) test h = and_from (all_below n test) (test n) (all_from n test (λ k lt. h k (omega arith))) (h n (omega arith))

least_zero : (a m n : ℕ) → min (max a m) n ≡ 0 → min a n ≡ 0
least_zero a m n h = omega arith

-- what is apart from a union is apart from both
pub union_apart : (a m n : ℕ) → bit_and (bit_or a m) n ≡ 0 → (bit_and a n ≡ 0) × (bit_and m n ≡ 0)
union_apart a m n h =
    let left : bit_and a n ≡ 0 = same_from_bits (bit_and a n) 0 (λ i. bit_at_and a n i ∙ least_zero (bit_at a i) (bit_at m i) (bit_at n i)
    (ap (λ x. min x (bit_at n i)) (sym (bit_at_or a m i)) ∙ sym (bit_at_and (bit_or a m) n i) ∙ ap (λ x. bit_at x i) h ∙ bit_at-zero i) ∙ sym (bit_at-zero i)) in
    let right : bit_and m n ≡ 0 = same_from_bits (bit_and m n) 0 (λ i. bit_at_and m n i ∙ least_zero (bit_at m i) (bit_at a i) (bit_at n i)
    (ap (λ x. min x (bit_at n i)) (max_comm (bit_at m i) (bit_at a i) ∙ sym (bit_at_or a m i)) ∙ sym (bit_at_and (bit_or a m) n i) ∙ ap (λ x. bit_at x i) h ∙ bit_at-zero i) ∙ sym (bit_at-zero i)) in
    (left, right)

-- the assignment of the classes behind the first
abbrev pub behind : (ℕ → ℕ) → ℕ → ℕ
behind choice_of k = choice_of (suc k)

-- the choices of a group's classes, each apart from the taken set and from one another
pub record IsPlaced (group : Group) (classes : List Class) (choice_of : ℕ → ℕ) (set : ℕ) : Type 0 where
  pub below : (k : ℕ) (c : Class) → slice_get classes k ≡ Some c → is_same group c.group ≡ true → choice_of k < 8
  pub taken : (k : ℕ) (c : Class) → slice_get classes k ≡ Some c → is_same group c.group ≡ true → may_take c (choice_of k) ≡ true
  pub clear : (k : ℕ) (c : Class) → slice_get classes k ≡ Some c → is_same group c.group ≡ true → bit_and set (registers_of (choice_of k)) ≡ 0
  pub apart : (k j : ℕ) (c d : Class) → slice_get classes k ≡ Some c → slice_get classes j ≡ Some d → k ≢ j → is_same group c.group ≡ true → is_same group d.group ≡ true
      → bit_and (registers_of (choice_of k)) (registers_of (choice_of j)) ≡ 0

abbrev joined_if : Bool → ℕ → ℕ → ℕ
joined_if b set choice = if b then bit_or set (registers_of choice) else set

-- the set with all that they take
pub taken_by : Group → List Class → (ℕ → ℕ) → ℕ → ℕ
taken_by group [] choice_of set = set
taken_by group (c ∷ cs) choice_of set = joined_if (is_same group c.group) (taken_by group cs (behind choice_of) set) (choice_of 0)

joined_apart : (b : Bool) (a m n : ℕ) → bit_and a n ≡ 0 → (b ≡ true → bit_and (registers_of m) n ≡ 0) → bit_and (joined_if b a m) n ≡ 0
joined_apart true a m n h g = and_or_apart n a (registers_of m) (g refl) ∙ h
joined_apart false a m n h g = h

-- what is apart from the set and from each choice is apart from all that is taken
pub apart_from_taken : (group : Group) (classes : List Class) (choice_of : ℕ → ℕ) (set n : ℕ) → bit_and set n ≡ 0
    → ((k : ℕ) (c : Class) → slice_get classes k ≡ Some c → is_same group c.group ≡ true → bit_and (registers_of (choice_of k)) n ≡ 0)
    → bit_and (taken_by group classes choice_of set) n ≡ 0
unfolding taken_by
apart_from_taken group [] choice_of set n clear each = clear
apart_from_taken group (c ∷ cs) choice_of set n clear each =
    joined_apart (is_same group c.group) (taken_by group cs (behind choice_of) set) (choice_of 0) n
    (apart_from_taken group cs (behind choice_of) set n clear (λ k d. each (suc k) d)) (each 0 c refl)

split_apart : (b : Bool) (a m n : ℕ) → bit_and (joined_if b a m) n ≡ 0 → (bit_and a n ≡ 0) × (b ≡ true → bit_and (registers_of m) n ≡ 0)
split_apart true a m n h = let both = union_apart a (registers_of m) n h in (both.0, λ e. both.1)
split_apart false a m n h = (h, λ e. cc)

pub record IsApart (group : Group) (classes : List Class) (choice_of : ℕ → ℕ) (set n : ℕ) : Type 0 where
  pub from_set : bit_and set n ≡ 0
  pub from_each : (k : ℕ) (c : Class) → slice_get classes k ≡ Some c → is_same group c.group ≡ true → bit_and (registers_of (choice_of k)) n ≡ 0

-- and the other way round
pub taken_apart : (group : Group) (classes : List Class) (choice_of : ℕ → ℕ) (set n : ℕ) → bit_and (taken_by group classes choice_of set) n ≡ 0 → IsApart group classes choice_of set n
unfolding taken_by
taken_apart group [] choice_of set n h = record { from_set = h; from_each = λ k c is. cc }
taken_apart group (c ∷ cs) choice_of set n h =
    let split = split_apart (is_same group c.group) (taken_by group cs (behind choice_of) set) (choice_of 0) n h in
    let rest = taken_apart group cs (behind choice_of) set n split.0 in
    record { from_set = rest.from_set; from_each = λ k d is same. apart_at c cs split.1 rest.from_each k d is same }
  where
    apart_at : (c : Class) (cs : List Class) → (is_same group c.group ≡ true → bit_and (registers_of (choice_of 0)) n ≡ 0)
        → ((k : ℕ) (d : Class) → slice_get cs k ≡ Some d → is_same group d.group ≡ true → bit_and (registers_of (choice_of (suc k))) n ≡ 0)
        → (k : ℕ) (d : Class) → slice_get (c ∷ cs) k ≡ Some d → is_same group d.group ≡ true → bit_and (registers_of (choice_of k)) n ≡ 0
    apart_at c cs first rest zero d is same = first (let e : c ≡ d = cc in ap (λ (x : Class). is_same group x.group) e ∙ same)
    apart_at c cs first rest (suc k) d is same = rest k d is same

-- ---- from tables to choices

pub record IsFound (group : Group) (classes : List Class) (wanted : ℕ → Bool) (set : ℕ) : Type 0 where
  pub choice_of : ℕ → ℕ
  pub placed : IsPlaced group classes choice_of set
  pub ends : wanted (taken_by group classes choice_of set) ≡ true

abbrev before_all : ℕ → (ℕ → ℕ) → ℕ → ℕ
before_all first rest zero = first
before_all first rest (suc k) = rest k

-- what the first class takes
record IsFirst (group : Group) (c : Class) (cs : List Class) (first : ℕ) (rest : ℕ → ℕ) (set : ℕ) : Type 0 where
  below : first < 8
  taken : may_take c first ≡ true
  apart : bit_and (taken_by group cs rest set) (registers_of first) ≡ 0

placed_more : (group : Group) (c : Class) (cs : List Class) (first : ℕ) (rest : ℕ → ℕ) (set : ℕ) → IsPlaced group cs rest set
    → (is_same group c.group ≡ true → IsFirst group c cs first rest set) → IsPlaced group (c ∷ cs) (before_all first rest) set
placed_more group c cs first rest set placed head = record {
  below = below;
  taken = taken;
  clear = clear;
  apart = apart;
}
  where
    same_first : (d : Class) → Some c ≡ Some d → is_same group d.group ≡ true → is_same group c.group ≡ true
    same_first d is same = let e : c ≡ d = cc in ap (λ (x : Class). is_same group x.group) e ∙ same

    below : (k : ℕ) (d : Class) → slice_get (c ∷ cs) k ≡ Some d → is_same group d.group ≡ true → before_all first rest k < 8
    below zero d is same = (head (same_first d is same)).below
    below (suc k) d is same = placed.below k d is same

    taken : (k : ℕ) (d : Class) → slice_get (c ∷ cs) k ≡ Some d → is_same group d.group ≡ true → may_take d (before_all first rest k) ≡ true
    taken zero d is same = let e : d ≡ c = cc in ap (λ (x : Class). may_take x first) e ∙ (head (same_first d is same)).taken
    taken (suc k) d is same = placed.taken k d is same

    clear : (k : ℕ) (d : Class) → slice_get (c ∷ cs) k ≡ Some d → is_same group d.group ≡ true → bit_and set (registers_of (before_all first rest k)) ≡ 0
    clear zero d is same = (taken_apart group cs rest set (registers_of first) (head (same_first d is same)).apart).from_set
    clear (suc k) d is same = placed.clear k d is same

    apart : (k j : ℕ) (d e : Class) → slice_get (c ∷ cs) k ≡ Some d → slice_get (c ∷ cs) j ≡ Some e → k ≢ j → is_same group d.group ≡ true → is_same group e.group ≡ true
        → bit_and (registers_of (before_all first rest k)) (registers_of (before_all first rest j)) ≡ 0
    apart zero zero d e is_d is_e differ same_d same_e = absurd (differ refl)
    apart zero (suc j) d e is_d is_e differ same_d same_e =
        and_comm (registers_of first) (registers_of (rest j)) ∙ (taken_apart group cs rest set (registers_of first) (head (same_first d is_d same_d)).apart).from_each j e is_e same_e
    apart (suc k) zero d e is_d is_e differ same_d same_e = (taken_apart group cs rest set (registers_of first) (head (same_first e is_e same_e)).apart).from_each k d is_d same_d
    apart (suc k) (suc j) d e is_d is_e differ same_d same_e = placed.apart k j d e is_d is_e (λ s. differ (ap suc s)) same_d same_e

first_choice : (choices : List Bool) (wanted : ℕ → Bool) (set : ℕ) → leads choices wanted set ≡ true
    → Witness 8 (λ k. slice_index_or choices k false && leads_by k wanted set)
unfolding leads
first_choice choices wanted set h = some_of 8 (λ k. slice_index_or choices k false && leads_by k wanted set) h

pub found : (group : Group) (classes : List Class) (wanted : ℕ → Bool) (set : ℕ) → leads_all group classes wanted set ≡ true → IsFound group classes wanted set
unfolding leads_all taken_by
found group [] wanted set h = record {
  choice_of = λ k. 0;
  placed = record { below = λ k c is. cc; taken = λ k c is. cc; clear = λ k c is. cc; apart = λ k j c d is. cc };
  ends = h;
}
found group (c ∷ cs) wanted set h = with_first (found group cs (through group c wanted) set h) (is_same group c.group) refl
  where
    with_first : IsFound group cs (through group c wanted) set → (b : Bool) → is_same group c.group ≡ b → IsFound group (c ∷ cs) wanted set
    with_first f true e =
        let leading : leads c.choices wanted (taken_by group cs f.choice_of set) ≡ true = ap (λ b. if b then leads c.choices wanted (taken_by group cs f.choice_of set) else wanted (taken_by group cs f.choice_of set)) (sym e) ∙ f.ends in
        let w = first_choice c.choices wanted (taken_by group cs f.choice_of set) leading in
        let parts = and_parts (slice_index_or c.choices w.it false) (leads_by w.it wanted (taken_by group cs f.choice_of set)) w.passes in
        let leads_it = and_parts (are_apart (taken_by group cs f.choice_of set) (registers_of w.it)) (wanted (bit_or (taken_by group cs f.choice_of set) (registers_of w.it))) parts.1 in
        record {
          choice_of = before_all w.it f.choice_of;
          placed = placed_more group c cs w.it f.choice_of set f.placed (λ same. record { below = w.below; taken = parts.0; apart = eqb-true _ _ leads_it.0 });
          ends = ap (λ b. wanted (joined_if b (taken_by group cs f.choice_of set) w.it)) e ∙ leads_it.1;
        }
    with_first f false e = record {
      choice_of = before_all 0 f.choice_of;
      placed = placed_more group c cs 0 f.choice_of set f.placed (λ same. let wrong : true ≡ false = sym same ∙ e in cc);
      ends = ap (λ b. wanted (joined_if b (taken_by group cs f.choice_of set) 0)) e ∙ (ap (λ b. if b then leads c.choices wanted (taken_by group cs f.choice_of set) else wanted (taken_by group cs f.choice_of set)) (sym e) ∙ f.ends);
    }

-- ---- from choices to tables

placed_behind : (group : Group) (c : Class) (cs : List Class) (choice_of : ℕ → ℕ) (set : ℕ) → IsPlaced group (c ∷ cs) choice_of set → IsPlaced group cs (behind choice_of) set
placed_behind group c cs choice_of set p = record {
  below = λ k. p.below (suc k);
  taken = λ k. p.taken (suc k);
  clear = λ k. p.clear (suc k);
  apart = λ k j d e is_d is_e differ. p.apart (suc k) (suc j) d e is_d is_e (λ s. differ (let same : k ≡ j = omega arith in same));
}

leads_from : (choices : List Bool) (wanted : ℕ → Bool) (set choice : ℕ) → choice < 8 → slice_index_or choices choice false ≡ true → bit_and set (registers_of choice) ≡ 0
    → wanted (bit_or set (registers_of choice)) ≡ true → leads choices wanted set ≡ true
unfolding leads
leads_from choices wanted set choice below taken apart ends =
    some_from 8 (λ k. slice_index_or choices k false && leads_by k wanted set) choice below
    (and_from (slice_index_or choices choice false) (leads_by choice wanted set) taken (and_from (are_apart set (registers_of choice)) (wanted (bit_or set (registers_of choice))) (eq-eqb _ _ apart) ends))

pub placed_leads : (group : Group) (classes : List Class) (wanted : ℕ → Bool) (set : ℕ) (choice_of : ℕ → ℕ) → IsPlaced group classes choice_of set
    → wanted (taken_by group classes choice_of set) ≡ true → leads_all group classes wanted set ≡ true
unfolding leads_all taken_by
placed_leads group [] wanted set choice_of p ends = ends
placed_leads group (c ∷ cs) wanted set choice_of p ends =
    placed_leads group cs (through group c wanted) set (behind choice_of) (placed_behind group c cs choice_of set p) (through_first (is_same group c.group) refl)
  where
    rest : ℕ
    rest = taken_by group cs (behind choice_of) set

    through_first : (b : Bool) → is_same group c.group ≡ b → through group c wanted rest ≡ true
    through_first true e =
        ap (λ b. if b then leads c.choices wanted rest else wanted rest) e
        ∙ leads_from c.choices wanted rest (choice_of 0) (p.below 0 c refl e) (p.taken 0 c refl e)
        (apart_from_taken group cs (behind choice_of) set (registers_of (choice_of 0)) (p.clear 0 c refl e) (λ k d is same. p.apart (suc k) 0 d c is refl (λ s. cc) same e))
        (ap (λ b. wanted (joined_if b rest (choice_of 0))) (sym e) ∙ ends)
    through_first false e = ap (λ b. if b then leads c.choices wanted rest else wanted rest) e ∙ (ap (λ b. wanted (joined_if b rest (choice_of 0))) (sym e) ∙ ends)
