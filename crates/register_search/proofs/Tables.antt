-- How a table grows class by class.
use Rattle.std.proofs.Common.{◌⊎◌, inl, inr, replicate, slice_set, ◌≡◌, ℕ, zero, suc, ◌+◌, ◌<◌, ◌==◌, ◌&&◌, ◌||◌, List, [], ◌∷◌, ◌++◌, length, get_or, take, add-one, Bool, true, false, bit_or, slice_index_or, refl, sym, ap, ◌∙◌, arith, if◌then◌else◌}
use Rattle.std.proofs.Math.Seq.{take-suc}
use Rattle.std.proofs.lemmas.Nat.{or_lt}
use Rattle.std.proofs.lemmas.Bool.{cases_eq, eq-eqb, ne_eqb}
use Rattle.std.proofs.lemmas.Nat.Bits.{bit_at_ones}
use Rattle.std.proofs.lemmas.List.{get_or-replicate, length-replicate, length-set, get_or-set_same, get_or-set_other}
use Rattle.register_search.specs.Assignment.{registers_of}
use Rattle.register_search.specs.Table.{holds, always, leads_numbered, AreGroupTables, are_apart, some_below, all_below, leads_by, leads, is_same, through, leads_all}
use Rattle.register_search.specs.declared.class.Group.{Group}
use Rattle.register_search.specs.declared.class.Group.TheVariants.{Absent, Exclusive, Numbered}
use Rattle.register_search.specs.declared.class.Class.{Class}
use Rattle.register_search.specs.declared.table.Table.{Table}
use Rattle.register_search.proofs.Sets.{each_choice}

pub registers_below : (choice : ℕ) → choice < 8 → registers_of choice < 128
registers_below choice below =
    each_choice (λ k. registers_of k < 128) (omega arith) (omega arith) (omega arith) (omega arith) (omega arith) (omega arith) (omega arith) (omega arith) choice below

pub joined_below : (set choice : ℕ) → set < 128 → choice < 8 → bit_or set (registers_of choice) < 128
joined_below set choice s below = or_lt 7 set (registers_of choice) s (registers_below choice below)

-- two tests that agree on the sets
abbrev pub AgreeOnSets : (ℕ → Bool) → (ℕ → Bool) → Type 0
AgreeOnSets one other = (set : ℕ) → set < 128 → one set ≡ other set

some_below-same : (n : ℕ) (one other : ℕ → Bool) → ((k : ℕ) → k < n → one k ≡ other k) → some_below n one ≡ some_below n other
unfolding some_below
some_below-same zero one other h = refl
some_below-same (suc n) one other h =
    ap (λ b. b || one n) (some_below-same n one other (λ k lt. h k (omega arith))) ∙ ap (λ b. some_below n other || b) (h n (omega arith))

leads-same : (choices : List Bool) (one other : ℕ → Bool) → AgreeOnSets one other → AgreeOnSets (leads choices one) (leads choices other)
unfolding leads
leads-same choices one other h set s =
    some_below-same 8 (λ k. slice_index_or choices k false && leads_by k one set) (λ k. slice_index_or choices k false && leads_by k other set)
    (λ k lt. ap (λ b. slice_index_or choices k false && (are_apart set (registers_of k) && b)) (h (bit_or set (registers_of k)) (joined_below set k s lt)))

if_same : (b : Bool) (x y z w : Bool) → x ≡ y → z ≡ w → (if b then x else z) ≡ (if b then y else w)
if_same true x y z w e f = e
if_same false x y z w e f = f

through-same : (group : Group) (class : Class) (one other : ℕ → Bool) → AgreeOnSets one other → AgreeOnSets (through group class one) (through group class other)
through-same group class one other h set s = if_same (is_same group class.group) _ _ _ _ (leads-same class.choices one other h set s) (h set s)

pub leads_all-same : (group : Group) (classes : List Class) (one other : ℕ → Bool) → AgreeOnSets one other → AgreeOnSets (leads_all group classes one) (leads_all group classes other)
unfolding leads_all
leads_all-same group [] one other h = h
leads_all-same group (c ∷ cs) one other h = leads_all-same group cs (through group c one) (through group c other) (through-same group c one other h)

leads_all-append : (group : Group) (classes : List Class) (class : Class) (wanted : ℕ → Bool) (set : ℕ)
    → leads_all group (classes ++ class ∷ []) wanted set ≡ through group class (leads_all group classes wanted) set
unfolding leads_all
leads_all-append group [] class wanted set = refl
leads_all-append group (c ∷ cs) class wanted set = leads_all-append group cs class (through group c wanted) set

-- a class of another group changes nothing
pub table_kept : (group : Group) (classes : List Class) (class : Class) (wanted old : ℕ → Bool) → is_same group class.group ≡ false
    → AgreeOnSets old (leads_all group classes wanted) → AgreeOnSets old (leads_all group (classes ++ class ∷ []) wanted)
table_kept group classes class wanted old other h set s =
    h set s ∙ ap (λ b. if b then leads class.choices (leads_all group classes wanted) set else leads_all group classes wanted set) (sym other) ∙ sym (leads_all-append group classes class wanted set)

-- and one of the group takes one of its choices
pub table_grown : (group : Group) (classes : List Class) (class : Class) (wanted old new : ℕ → Bool) → is_same group class.group ≡ true
    → AgreeOnSets old (leads_all group classes wanted) → AgreeOnSets new (leads class.choices old) → AgreeOnSets new (leads_all group (classes ++ class ∷ []) wanted)
table_grown group classes class wanted old new same h made set s =
    made set s ∙ leads-same class.choices old (leads_all group classes wanted) h set s
    ∙ ap (λ b. if b then leads class.choices (leads_all group classes wanted) set else leads_all group classes wanted set) (sym same) ∙ sym (leads_all-append group classes class wanted set)

taken_more : (group : Group) (classes : List Class) (i : ℕ) (d : Class) (wanted : ℕ → Bool) (set : ℕ) → i < length classes
    → leads_all group (take i classes ++ get_or classes i d ∷ []) wanted set ≡ leads_all group (take (i + 1) classes) wanted set
taken_more group classes i d wanted set lt = ap (λ cs. leads_all group cs wanted set) (sym (ap (λ n. take n classes) (add-one i) ∙ take-suc classes i d lt))

-- a loop over the classes, at one of another group and at one of the group
pub loop_kept : (group : Group) (classes : List Class) (i : ℕ) (d : Class) (wanted old : ℕ → Bool) → i < length classes → is_same group (get_or classes i d).group ≡ false
    → AgreeOnSets old (leads_all group (take i classes) wanted) → AgreeOnSets old (leads_all group (take (i + 1) classes) wanted)
loop_kept group classes i d wanted old lt other h set s = table_kept group (take i classes) (get_or classes i d) wanted old other h set s ∙ taken_more group classes i d wanted set lt

pub loop_grown : (group : Group) (classes : List Class) (i : ℕ) (d : Class) (wanted old new : ℕ → Bool) → i < length classes → is_same group (get_or classes i d).group ≡ true
    → AgreeOnSets old (leads_all group (take i classes) wanted) → AgreeOnSets new (leads (get_or classes i d).choices old) → AgreeOnSets new (leads_all group (take (i + 1) classes) wanted)
loop_grown group classes i d wanted old new lt same h made set s =
    table_grown group (take i classes) (get_or classes i d) wanted old new same h made set s ∙ taken_more group classes i d wanted set lt

pub not_exclusive : (g : Group) → (g ≡ Exclusive → ⊥) → is_same Exclusive g ≡ false
not_exclusive Absent h = refl
not_exclusive Exclusive h = absurd (h refl)
not_exclusive (Numbered n) h = refl

abbrev pub every : Table
every = record { sets = 340282366920938463463374607431768211455 }

pub every_holds : (set : ℕ) → set < 128 → holds every set ≡ true
every_holds set s = ap (λ n. n == 1) (bit_at_ones 128 set s)

-- before any class each table has every set
pub group_tables_begun : AreGroupTables [] (replicate 32 every)
unfolding leads_all
group_tables_begun = record {
  size = length-replicate 32 every;
  each = λ number set below s. ap (λ t. holds t set) (get_or-replicate 32 number every (record { sets = 0 }) below) ∙ every_holds set s;
}

pub other_number : (g : Group) (n : ℕ) → ((m : ℕ) → g ≡ Numbered m → ⊥) → is_same (Numbered n) g ≡ false
other_number Absent n h = refl
other_number Exclusive n h = refl
other_number (Numbered m) n h = absurd (h m refl)

pub group_tables_kept : (classes : List Class) (tables : List Table) (i : ℕ) (d : Class) → i < length classes → ((m : ℕ) → (get_or classes i d).group ≡ Numbered m → ⊥)
    → AreGroupTables (take i classes) tables → AreGroupTables (take (i + 1) classes) tables
group_tables_kept classes tables i d lt other h = record {
  size = h.size;
  each = λ number set below s. loop_kept (Numbered number) classes i d always (holds (get_or tables number (record { sets = 0 }))) lt (other_number (get_or classes i d).group number other) (λ set s. h.each number set below s) set s;
}

pub group_tables_grown : (classes : List Class) (tables : List Table) (i m : ℕ) (d : Class) (t : Table) → i < length classes → (get_or classes i d).group ≡ Numbered m → m < 32
    → AgreeOnSets (holds t) (leads (get_or classes i d).choices (holds (get_or tables m (record { sets = 0 }))))
    → AreGroupTables (take i classes) tables → AreGroupTables (take (i + 1) classes) (slice_set tables m t)
group_tables_grown classes tables i m d t lt is below_m made h = record { size = length-set tables m t ∙ h.size; each = λ number set below s. at number set below s (cases_eq number m) }
  where
    at : (number set : ℕ) → number < 32 → set < 128 → (number ≡ m) ⊎ (number ≡ m → ⊥)
        → holds (get_or (slice_set tables m t) number (record { sets = 0 })) set ≡ leads_all (Numbered number) (take (i + 1) classes) always set
    at number set below s (inl same) =
        let inside : m < length tables = let e = h.size in omega arith in
        ap (λ n. holds (get_or (slice_set tables m t) n (record { sets = 0 })) set) same ∙ ap (λ x. holds x set) (get_or-set_same tables m t (record { sets = 0 }) inside)
        ∙ loop_grown (Numbered m) classes i d always (holds (get_or tables m (record { sets = 0 }))) (holds t) lt (ap (is_same (Numbered m)) is ∙ eq-eqb m m refl) (λ set s. h.each m set below_m s) made set s
        ∙ ap (λ n. leads_all (Numbered n) (take (i + 1) classes) always set) (sym same)
    at number set below s (inr other) =
        ap (λ x. holds x set) (get_or-set_other tables m number t (record { sets = 0 }) other)
        ∙ loop_kept (Numbered number) classes i d always (holds (get_or tables number (record { sets = 0 }))) lt (ap (is_same (Numbered number)) is ∙ ne_eqb number m other) (λ set s. h.each number set below s) set s

all_below-same : (n : ℕ) (one other : ℕ → Bool) → ((k : ℕ) → k < n → one k ≡ other k) → all_below n one ≡ all_below n other
unfolding all_below
all_below-same zero one other h = refl
all_below-same (suc n) one other h = ap (λ b. b && one n) (all_below-same n one other (λ k lt. h k (omega arith))) ∙ ap (λ b. all_below n other && b) (h n (omega arith))

pub all_below-more : (n : ℕ) (test : ℕ → Bool) → all_below (n + 1) test ≡ (all_below n test && test n)
unfolding all_below
all_below-more n test = ap (λ m. all_below m test) (add-one n)

pub in_all_tables : (classes : List Class) (tables : List Table) (set : ℕ) → AreGroupTables classes tables → set < 128
    → all_below 32 (λ n. holds (get_or tables n (record { sets = 0 })) set) ≡ leads_numbered classes set
in_all_tables classes tables set h s = all_below-same 32 (λ n. holds (get_or tables n (record { sets = 0 })) set) (λ n. leads_all (Numbered n) classes always set) (λ n below. h.each n set below s)
