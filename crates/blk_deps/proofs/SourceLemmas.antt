-- What a value has that is computed of things.
use Rattle.std.proofs.Common.{◌≡◌, inl, inr, ℕ, ◌+◌, ◌*◌, ◌/◌, ◌^◌, ◌<◌, ◌≤◌, ◌==◌, ◌&&◌, ◌||◌, nat_lt, List, [], length, take, slice_index_or, bit_and, Bool, true, false, not, IsTrue, Option, None, Some, is_some, if◌then◌else◌, refl, sym, ap, ◌∙◌, arith}
use Rattle.std.specs.List.{list_any}
use Rattle.std.proofs.lemmas.Bool.{true≢false, false≢true, cases_eq, cases_lt, lt-ltb, le-ltb, eq-eqb, ne_eqb}
use Rattle.std.proofs.Math.Bool.{and-false, and-true}
use Rattle.std.proofs.lemmas.List.Folds.{list_any_more}
use Rattle.dataflow.specs.Bits.{facts_in}
use Rattle.blk_deps.specs.Facts.{Facts, has_as_read, has_from, has_computed, some_unwritten}
use Rattle.blk_deps.specs.Layout.{IsLayout, places_in, cell_words, value_words, row_words, slot, at_slot, no_bit, property_bit, shown, shown_value}
use Rattle.blk_deps.specs.Fits.{has_slot, is_kept_in_value, is_dependence, has_absent, held, JoinsAsRead, JoinsFrom, IsRead}
use Rattle.blk_deps.specs.Ground.{has_bit}
use Rattle.blk_deps.specs.declared.layout.Layout.{Layout}
use Rattle.blk_deps.specs.declared.step.Name.{Name}
use Rattle.blk_deps.specs.declared.step.Name.TheVariants as names
use Rattle.blk_deps.specs.declared.step.Read.{Read}
use Rattle.blk_deps.specs.declared.fact.Provenance.TheVariants.{EntryOf, Old, Undefined, Outside}
use Rattle.blk_deps.specs.declared.fact.Property.{Property}
use Rattle.blk_deps.specs.declared.fact.Property.TheVariants.{NotEntryOf, ComesFrom, Pair}
use Rattle.blk_deps.specs.declared.fact.Fact.TheVariants.{Here, Unwritten}
use Rattle.blk_deps.proofs.AnyLemmas.{nonzero_below}
use Rattle.blk_deps.proofs.ReadLemmas.{absent_of_cell, or_self}
use Rattle.blk_deps.proofs.PropertyLemmas.{slot_within, has_no_bit, value_in_row}

-- what words tell of a dependence, they tell whether or not there is a bit for it
pub dependence_held : (l : Layout) (here : Bool) (value : List ℕ) (property : Property) → IsLayout l → length value ≡ value_words l
    → is_dependence property ≡ true → held l here value property ≡ shown_value l value property
dependence_held l here value property is fits depends = by_kept property depends (is_kept_in_value l property) refl
  where
    none : facts_in value (no_bit l) ≡ false
    none = has_no_bit l value (omega (arith, fits, value_in_row l))

    gone_slot : (at : ℕ) (o : Option ℕ) → is_some o ≡ false → facts_in value (at_slot at o (no_bit l)) ≡ false
    gone_slot at None e = none
    gone_slot at (Some x) e = absurd (true≢false e)

    by_kept : (property : Property) → is_dependence property ≡ true → (t : Bool) → is_kept_in_value l property ≡ t
        → held l here value property ≡ shown_value l value property
    by_kept property depends true kept = rw kept refl
    by_kept (NotEntryOf e) depends false gone = absurd (false≢true depends)
    by_kept (ComesFrom (EntryOf e)) depends false gone = rw gone (sym (gone_slot (0 + cell_words l) (slot l e) gone))
    by_kept (ComesFrom (Old k)) depends false gone = rw gone (sym none)
    by_kept (ComesFrom Undefined) depends false gone = absurd (true≢false gone)
    by_kept (ComesFrom Outside) depends false gone = absurd (true≢false gone)
    by_kept (Pair d p) depends false gone = rw gone (sym none)

pub joins_cell : (l : Layout) (facts : Facts) (u : ℕ) (old new : List ℕ) → IsLayout l → length old ≡ value_words l → length new ≡ value_words l
    → JoinsAsRead l facts u old new → JoinsFrom l facts (names.Cell u) old new
joins_cell l facts u old new is old_fits new_fits joins = record { each = λ property depends. of_cell property depends }
  where
    as_read : (property : Property) → is_dependence property ≡ true
        → shown_value l new property ≡ (shown_value l old property || has_as_read facts u property)
    as_read property depends =
        sym (dependence_held l (facts Here) new property is new_fits depends)
        ∙ joins.each property
        ∙ ap (λ b. b || has_as_read facts u property) (dependence_held l (facts Here) old property is old_fits depends)

    of_cell : (property : Property) → IsTrue (is_dependence property)
        → shown_value l new property ≡ (shown_value l old property || has_from facts (names.Cell u) property)
    of_cell (NotEntryOf e) depends = absurd (false≢true depends)
    of_cell (ComesFrom x) depends = as_read (ComesFrom x) depends
    of_cell (Pair d p) depends = as_read (Pair d p) depends

-- ---- the word of old bytes, undefined bits and words from outside

-- the property whose bit in that word is b
abbrev pub is_source : Layout → ℕ → Property → Bool
is_source l b (ComesFrom (Old k)) = nat_lt k l.operands && k == b
is_source l b (ComesFrom Undefined) = 62 == b
is_source l b (ComesFrom Outside) = 63 == b
is_source l b property = false

module _ (l : Layout) (is : IsLayout l) (b : ℕ) (lt : b < 64) where
  bit_there : (k : ℕ) → (64 * (0 + 2 * cell_words l) + k == 128 * cell_words l + b) ≡ (k == b)
  bit_there k = elim (cases_eq k b) [
    | inl same ↦ eq-eqb _ _ (omega (arith, same)) ∙ sym (eq-eqb k b same)
    | inr differ ↦ ne_eqb _ _ (λ e. differ (omega (arith, e))) ∙ sym (ne_eqb k b differ)
  ]

  not_no_bit : (no_bit l == 128 * cell_words l + b) ≡ false
  not_no_bit = let le = value_in_row l in ne_eqb (no_bit l) (128 * cell_words l + b) (λ e. omega (arith, e, le, lt))

  not_entry : (e : ℕ) (o : Option ℕ) → slot l e ≡ o → (at_slot (0 + cell_words l) o (no_bit l) == 128 * cell_words l + b) ≡ false
  not_entry e None same = not_no_bit
  not_entry e (Some x) same =
      let le = slot_within l e (0 + cell_words l) (2 * cell_words l) (no_bit l) (Some x) is same refl (omega arith) in
      ne_eqb (64 * (0 + cell_words l) + x) (128 * cell_words l + b) (λ e. omega (arith, e, le))

  not_pair : (d p : ℕ) (t : Bool) → (if t then 64 * (0 + 2 * cell_words l + 1 + p) + d else no_bit l) == 128 * cell_words l + b ≡ false
  not_pair d p true = ne_eqb _ _ (λ e. omega (arith, e, lt))
  not_pair d p false = not_no_bit

  pub source_bit : (property : Property) → is_dependence property ≡ true
      → (property_bit l 0 property == 128 * cell_words l + b) ≡ is_source l b property
  source_bit (NotEntryOf e) depends = absurd (false≢true depends)
  source_bit (ComesFrom (EntryOf e)) depends = not_entry e (slot l e) refl
  source_bit (ComesFrom (Old k)) depends = old_bit (nat_lt k l.operands)
    where
      old_bit : (t : Bool) → ((if t then 64 * (0 + 2 * cell_words l) + k else no_bit l) == 128 * cell_words l + b) ≡ (t && k == b)
      old_bit true = bit_there k
      old_bit false = not_no_bit
  source_bit (ComesFrom Undefined) depends = bit_there 62
  source_bit (ComesFrom Outside) depends = bit_there 63
  source_bit (Pair d p) depends = not_pair d p (nat_lt d (places_in l) && nat_lt p (places_in l))

  pub joins_source : (facts : Facts) (name : Name) (on : Bool) (old new : List ℕ)
      → ((property : Property) → is_dependence property ≡ true → (on && is_source l b property) ≡ has_from facts name property)
      → ((n : ℕ) → facts_in new n ≡ (facts_in old n || (on && n == 128 * cell_words l + b)))
      → JoinsFrom l facts name old new
  joins_source facts name on old new means bits = record {
    each = λ property depends. bits (property_bit l 0 property)
        ∙ ap (λ t. facts_in old (property_bit l 0 property) || (on && t)) (source_bit property depends)
        ∙ ap (λ t. facts_in old (property_bit l 0 property) || t) (means property depends);
  }

small_number : (l : Layout) (k b : ℕ) → IsLayout l → 62 ≤ b → (nat_lt k l.operands && k == b) ≡ false
small_number l k b is le = elim (cases_lt k l.operands) [
  | inl lt ↦ ap (λ t. nat_lt k l.operands && t) (ne_eqb k b (λ e. omega (arith, e, lt, le, is.operands))) ∙ and-false (nat_lt k l.operands)
  | inr ge ↦ ap (λ t. t && k == b) (le-ltb k l.operands ge)
]

pub means_undefined : (l : Layout) (facts : Facts) (on : Bool) → IsLayout l → on ≡ facts Here → (property : Property) → is_dependence property ≡ true
    → (on && is_source l 62 property) ≡ has_from facts names.Undefined property
means_undefined l facts on is here (NotEntryOf e) depends = absurd (false≢true depends)
means_undefined l facts on is here (ComesFrom (EntryOf e)) depends = and-false on
means_undefined l facts on is here (ComesFrom (Old k)) depends = ap (λ t. on && t) (small_number l k 62 is (omega arith)) ∙ and-false on
means_undefined l facts on is here (ComesFrom Undefined) depends = and-true on ∙ here
means_undefined l facts on is here (ComesFrom Outside) depends = and-false on
means_undefined l facts on is here (Pair d p) depends = and-false on

pub means_outside : (l : Layout) (facts : Facts) (on : Bool) → IsLayout l → on ≡ facts Here → (property : Property) → is_dependence property ≡ true
    → (on && is_source l 63 property) ≡ has_from facts names.Outside property
means_outside l facts on is here (NotEntryOf e) depends = absurd (false≢true depends)
means_outside l facts on is here (ComesFrom (EntryOf e)) depends = and-false on
means_outside l facts on is here (ComesFrom (Old k)) depends = ap (λ t. on && t) (small_number l k 63 is (omega arith)) ∙ and-false on
means_outside l facts on is here (ComesFrom Undefined) depends = and-false on
means_outside l facts on is here (ComesFrom Outside) depends = and-true on ∙ here
means_outside l facts on is here (Pair d p) depends = and-false on

pub means_load : (l : Layout) (facts : Facts) (k count : ℕ) (on : Bool) → IsLayout l → k < l.operands → on ≡ some_unwritten facts k count
    → (property : Property) → is_dependence property ≡ true → (on && is_source l k property) ≡ has_from facts (names.Load k count) property
means_load l facts k count on is lt tells (NotEntryOf e) depends = absurd (false≢true depends)
means_load l facts k count on is lt tells (ComesFrom (EntryOf e)) depends = and-false on
means_load l facts k count on is lt tells (ComesFrom (Old j)) depends = elim (cases_eq j k) [
  | inl same ↦ rw (eq-eqb j k same, lt-ltb j l.operands (omega (arith, same, lt))) (and-true on ∙ tells)
  | inr differ ↦ rw (ne_eqb j k differ, and-false (nat_lt j l.operands)) (and-false on)
]
means_load l facts k count on is lt tells (ComesFrom Undefined) depends =
    ap (λ t. on && t) (ne_eqb 62 k (λ e. omega (arith, e, lt, is.operands))) ∙ and-false on
means_load l facts k count on is lt tells (ComesFrom Outside) depends =
    ap (λ t. on && t) (ne_eqb 63 k (λ e. omega (arith, e, lt, is.operands))) ∙ and-false on
means_load l facts k count on is lt tells (Pair d p) depends = and-false on

-- ---- loads

pub bytes_asked : (l : Layout) (row : List ℕ) (k count word mask : ℕ) → k < l.operands → length row ≤ row_words l → word < 2 ^ 64
    → ((b : ℕ) → b < 64 → has_bit word b ≡ shown l row (Unwritten k b)) → ((b : ℕ) → b < 64 → has_bit mask b ≡ nat_lt b count)
    → not (bit_and word mask == 0) ≡ some_unwritten (shown l row) k count
bytes_asked l row k count word mask there fits small tells masks =
    nonzero_below word mask count (λ b. shown l row (Unwritten k b)) small masks tells
    (λ b le. rw (lt-ltb k l.operands there, le-ltb b 64 le) (has_no_bit l row fits))

-- ---- hands

pub copy_read : (l : Layout) (row : List ℕ) (u : ℕ) (blank new : List ℕ) → IsLayout l → length row ≡ row_words l → has_slot l u ≡ true
    → ((n : ℕ) → facts_in blank n ≡ false) → JoinsAsRead l (shown l row) u blank new → IsRead l (shown l row) (Read.Copy u) new
copy_read l row u blank new is fits there cleared joins = record {
  each = λ property. joins.each property ∙ of_blank property (is_kept_in_value l property) refl;
}
  where
    facts : Facts
    facts = shown l row

    as_here : (property : Property) → is_kept_in_value l property ≡ false
        → (has_absent (facts Here) property || has_as_read facts u property) ≡ has_as_read facts u property
    as_here (NotEntryOf e) gone = rw (absent_of_cell l row u is fits there (NotEntryOf e) gone) (sym (or_self (facts Here)))
    as_here (ComesFrom x) gone = refl
    as_here (Pair d p) gone = refl

    of_blank : (property : Property) (t : Bool) → is_kept_in_value l property ≡ t
        → (held l (facts Here) blank property || has_as_read facts u property) ≡ has_as_read facts u property
    of_blank property true kept = rw (kept, cleared (property_bit l 0 property)) refl
    of_blank property false gone = rw gone (as_here property gone)

-- the values that are computed of these names
pub record ComesOf (l : Layout) (facts : Facts) (of : List Name) (value : List ℕ) : Type 0 where
  pub each : (property : Property) → IsTrue (is_dependence property)
      → shown_value l value property ≡ list_any (λ name. has_from facts name property) of

module _ (l : Layout) (facts : Facts) (is : IsLayout l) (of : List Name) (old new : List ℕ) (old_fits : length old ≡ value_words l)
    (new_fits : length new ≡ value_words l) (comes : ComesOf l facts of old)
    (bits : (n : ℕ) → facts_in new n ≡ (if nat_lt (n / 64) (cell_words l) then facts Here else facts_in old n)) where
  behind : (n : ℕ) → 64 * cell_words l ≤ n → facts_in new n ≡ facts_in old n
  behind n le = bits n ∙ rw (le-ltb (n / 64) (cell_words l) (omega (arith, le))) refl

  ahead : (n : ℕ) → n < 64 * cell_words l → facts_in new n ≡ facts Here
  ahead n lt = bits n ∙ rw (lt-ltb (n / 64) (cell_words l) (omega (arith, lt))) refl

  kept_behind : (property : Property) → is_dependence property ≡ true → 64 * cell_words l ≤ property_bit l 0 property
  kept_behind (NotEntryOf e) depends = absurd (false≢true depends)
  kept_behind (ComesFrom (EntryOf e)) depends = entry_behind (slot l e)
    where
      entry_behind : (o : Option ℕ) → 64 * cell_words l ≤ at_slot (0 + cell_words l) o (no_bit l)
      entry_behind None = let le = value_in_row l in omega (arith, le)
      entry_behind (Some x) = omega arith
  kept_behind (ComesFrom (Old k)) depends = old_behind (nat_lt k l.operands)
    where
      old_behind : (t : Bool) → 64 * cell_words l ≤ (if t then 64 * (0 + 2 * cell_words l) + k else no_bit l)
      old_behind true = omega arith
      old_behind false = let le = value_in_row l in omega (arith, le)
  kept_behind (ComesFrom Undefined) depends = omega arith
  kept_behind (ComesFrom Outside) depends = omega arith
  kept_behind (Pair d p) depends = pair_behind (nat_lt d (places_in l) && nat_lt p (places_in l))
    where
      pair_behind : (t : Bool) → 64 * cell_words l ≤ (if t then 64 * (0 + 2 * cell_words l + 1 + p) + d else no_bit l)
      pair_behind true = omega arith
      pair_behind false = let le = value_in_row l in omega (arith, le)

  dependence_read : (property : Property) → is_dependence property ≡ true
      → held l (facts Here) new property ≡ list_any (λ name. has_from facts name property) of
  dependence_read property depends =
      dependence_held l (facts Here) new property is new_fits depends
      ∙ behind (property_bit l 0 property) (kept_behind property depends)
      ∙ comes.each property depends

  computed : (property : Property) → held l (facts Here) new property ≡ has_computed facts of property
  computed (NotEntryOf e) = copied (is_kept_in_value l (NotEntryOf e)) refl
    where
      copied : (t : Bool) → is_kept_in_value l (NotEntryOf e) ≡ t → held l (facts Here) new (NotEntryOf e) ≡ facts Here
      copied true kept = rw kept (ahead (property_bit l 0 (NotEntryOf e)) (slot_within l e 0 (cell_words l) 0 (slot l e) is refl kept (omega arith)))
      copied false gone = rw gone refl
  computed (ComesFrom x) = dependence_read (ComesFrom x) refl
  computed (Pair d p) = dependence_read (Pair d p) refl

  pub compute_read : IsRead l facts (Read.Compute of) new
  compute_read = record { each = computed }

pub none_comes : (l : Layout) (facts : Facts) (value : List ℕ) → ((n : ℕ) → facts_in value n ≡ false) → ComesOf l facts [] value
none_comes l facts value cleared = record { each = λ property depends. cleared (property_bit l 0 property) }

pub one_more_comes : (l : Layout) (facts : Facts) (of : List Name) (i : ℕ) (name : Name) (old new : List ℕ) → i < length of
    → slice_index_or of i name ≡ name → ComesOf l facts (take i of) old → JoinsFrom l facts name old new → ComesOf l facts (take (i + 1) of) new
one_more_comes l facts of i name old new lt is comes joins = record {
  each = λ property depends. joins.each property depends
      ∙ ap (λ t. t || has_from facts name property) (comes.each property depends)
      ∙ ap (λ n. list_any (λ name. has_from facts name property) (take i of) || has_from facts n property) (sym is)
      ∙ sym (list_any_more (λ name. has_from facts name property) of i name lt);
}
