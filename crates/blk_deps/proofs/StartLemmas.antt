-- How the facts of the entry come into a blank row.
use Rattle.std.proofs.Common.{◌≡◌, ◌≢◌, inl, inr, ℕ, ◌+◌, ◌*◌, ◌/◌, ◌%◌, ◌-◌, ◌<◌, ◌≤◌, ◌==◌, ◌&&◌, nat_lt, nat_le, not, List, length, take, drop, length-append, length-take, length-drop, slice_index, Bool, true, false, Option, None, Some, is_some, if◌then◌else◌, refl, sym, ap, ◌∙◌, arith}
use Rattle.std.proofs.lemmas.Bool.{cases_eq, cases_lt, lt-ltb, le-ltb, le-leb, lt-leb, eq-eqb, ne_eqb}
use Rattle.std.proofs.lemmas.List.{get_or-drop, get_or-take}
use Rattle.std.proofs.lemmas.Slice.{between-put_mid, take-put_mid_below, drop-put_mid}
use Rattle.std.proofs.Math.Bool.{and-false}
use borrow.Rule.Slice.PartMut.{put_mid}
use Rattle.dataflow.specs.Bits.{facts_in}
use Rattle.blk_deps.specs.Facts.{Facts}
use Rattle.blk_deps.specs.Ground.{has_bit}
use Rattle.blk_deps.specs.Layout.{IsLayout, places_in, cells_in, cell_words, value_words, block_words, row_words, block_at, slot, at_slot, no_bit, shown}
use Rattle.blk_deps.specs.Fits.{held}
use Rattle.blk_deps.specs.Changes.{with_value, is_own, with_own, is_begun, with_owns, is_own_bit}
use Rattle.blk_deps.specs.declared.layout.Layout.{Layout}
use Rattle.blk_deps.specs.declared.fact.Provenance.TheVariants.{EntryOf, Old, Undefined, Outside}
use Rattle.blk_deps.specs.declared.fact.Property.{Property}
use Rattle.blk_deps.specs.declared.fact.Property.TheVariants.{NotEntryOf, ComesFrom, Pair}
use Rattle.blk_deps.specs.declared.fact.Fact.{Fact}
use Rattle.blk_deps.specs.declared.fact.Fact.TheVariants.{Here, Has, Overwrites, Unwritten, DirectionSet}
use Rattle.blk_deps.proofs.SlotLemmas.{slot_inside, slot_injective}
use Rattle.blk_deps.proofs.WordLemmas.{facts_between}
use Rattle.blk_deps.proofs.PutLemmas.{value_put}

-- ---- words put in the middle

facts_take : (row : List ℕ) (at n : ℕ) → n / 64 < at → facts_in (take at row) n ≡ facts_in row n
facts_take row at n lt = ap (λ w. has_bit w (n % 64)) (get_or-take at row (n / 64) 0 lt)

facts_drop : (row : List ℕ) (at n : ℕ) → at ≤ n / 64 → facts_in (drop at row) (n - 64 * at) ≡ facts_in row n
facts_drop row at n le =
    let word : (n - 64 * at) / 64 ≡ n / 64 - at = omega (arith, le) in
    let bit : (n - 64 * at) % 64 ≡ n % 64 = omega (arith, le) in
    let whole : at + (n / 64 - at) ≡ n / 64 = omega (arith, le) in
    rw (word, bit) (ap (λ w. has_bit w (n % 64)) (get_or-drop at row (n / 64 - at) 0 ∙ ap (slice_index row) whole))

pub facts_put_mid : (row part : List ℕ) (at k n : ℕ) → at + k ≤ length row → length part ≡ k
    → facts_in (put_mid at k row part) n
    ≡ (if nat_le at (n / 64) && nat_lt (n / 64) (at + length part) then facts_in part (n - 64 * at) else facts_in row n)
facts_put_mid row part at k n inside fits = elim (cases_lt (n / 64) at) [
  | inl before ↦
      sym (facts_take (put_mid at k row part) at n before)
      ∙ ap (λ xs. facts_in xs n) (take-put_mid_below at k row part at (omega arith) (omega (arith, inside)))
      ∙ facts_take row at n before
      ∙ ap (λ t. if t && nat_lt (n / 64) (at + length part) then facts_in part (n - 64 * at) else facts_in row n) (sym (lt-leb at (n / 64) before))
  | inr from ↦ elim (cases_lt (n / 64) (at + k)) [
    | inl within ↦
        let whole : 64 * at + (n - 64 * at) ≡ n = omega (arith, from) in
        ap (facts_in (put_mid at k row part)) (sym whole)
        ∙ sym (facts_between (put_mid at k row part) at k (n - 64 * at) (omega (arith, within, from)))
        ∙ ap (λ xs. facts_in xs (n - 64 * at)) (between-put_mid at k row part (at + k) (omega (arith, inside)) (omega (arith, fits)))
        ∙ ap (λ t. if t then facts_in part (n - 64 * at) else facts_in row n)
        (sym (ap (λ t. t && nat_lt (n / 64) (at + length part)) (le-leb at (n / 64) from) ∙ lt-ltb (n / 64) (at + length part) (omega (arith, within, fits))))
    | inr behind ↦
        sym (facts_drop (put_mid at k row part) (at + k) n behind)
        ∙ ap (λ xs. facts_in xs (n - 64 * (at + k))) (drop-put_mid at k row part (at + k) (omega arith) (omega (arith, inside)) fits)
        ∙ facts_drop row (at + k) n behind
        ∙ ap (λ t. if t then facts_in part (n - 64 * at) else facts_in row n)
        (sym (ap (λ t. nat_le at (n / 64) && t) (le-ltb (n / 64) (at + length part) (omega (arith, behind, fits))) ∙ and-false (nat_le at (n / 64))))
  ]
]

-- ---- a cell's own value

module _ (l : Layout) (is : IsLayout l) (u x : ℕ) (has : slot l u ≡ Some x) (value : List ℕ)
    (bits : (n : ℕ) → facts_in value n ≡ is_own_bit l x n) where
  below : x < cells_in l
  below = slot_inside l u x is has

  high_bit : (n : ℕ) → 64 * (2 * cell_words l) ≤ n → facts_in value n ≡ false
  high_bit n le =
      let lt = below in
      bits n
      ∙ ap (λ t. if t then true else if n == x then false else nat_lt (n / 64) (cell_words l)) (ne_eqb n (64 * cell_words l + x) (λ e. omega (arith, le, lt, e)))
      ∙ ap (λ t. if t then false else nat_lt (n / 64) (cell_words l)) (ne_eqb n x (λ e. omega (arith, le, lt, e)))
      ∙ le-ltb (n / 64) (cell_words l) (omega (arith, le))

  same_cell : (e y : ℕ) → slot l e ≡ Some y → (y == x) ≡ (u == e)
  same_cell e y there = elim (cases_eq y x) [
    | inl same ↦ eq-eqb y x same ∙ sym (eq-eqb u e (slot_injective l u e x is has (there ∙ ap Some same)))
    | inr differ ↦ ne_eqb y x differ ∙ sym (ne_eqb u e (λ same. differ (some_is (sym there ∙ ap (slot l) (sym same) ∙ has))))
  ]
    where
      some_is : {a b : ℕ} → Some a ≡ Some b → a ≡ b
      some_is e = ap (λ o. elim o [ None ↦ 0 | Some z ↦ z ]) e

  no_cell : (e : ℕ) → slot l e ≡ None → (u == e) ≡ false
  no_cell e none = ne_eqb u e (λ same. none_some (sym none ∙ ap (slot l) (sym same) ∙ has))
    where
      none_some : None ≡ Some x → ⊥
      none_some e = cc

  not_bit : (e y : ℕ) → slot l e ≡ Some y → facts_in value y ≡ not (u == e)
  not_bit e y there =
      let lt = slot_inside l e y is there in
      bits y
      ∙ ap (λ t. if t then true else if y == x then false else nat_lt (y / 64) (cell_words l)) (ne_eqb y (64 * cell_words l + x) (λ e. omega (arith, lt, e)))
      ∙ ap (λ t. if y == x then false else t) (lt-ltb (y / 64) (cell_words l) (omega (arith, lt)))
      ∙ ap (λ t. if t then false else true) (same_cell e y there)
      ∙ negated (u == e)
    where
      negated : (t : Bool) → (if t then false else true) ≡ not t
      negated true = refl
      negated false = refl

  entry_bit : (e y : ℕ) → slot l e ≡ Some y → facts_in value (64 * (0 + cell_words l) + y) ≡ (u == e)
  entry_bit e y there =
      let lt = below in
      bits (64 * (0 + cell_words l) + y)
      ∙ ap (λ t. if t then true else if 64 * (0 + cell_words l) + y == x then false else nat_lt ((64 * (0 + cell_words l) + y) / 64) (cell_words l)) same_place
      ∙ ap (λ t. if y == x then true else if t then false else nat_lt ((64 * (0 + cell_words l) + y) / 64) (cell_words l))
      (ne_eqb (64 * (0 + cell_words l) + y) x (λ e. omega (arith, lt, e)))
      ∙ ap (λ t. if y == x then true else t) (le-ltb ((64 * (0 + cell_words l) + y) / 64) (cell_words l) (omega arith))
      ∙ ap (λ t. if t then true else false) (same_cell e y there)
      ∙ itself (u == e)
    where
      same_place : (64 * (0 + cell_words l) + y == 64 * cell_words l + x) ≡ (y == x)
      same_place = elim (cases_eq y x) [
        | inl same ↦ eq-eqb _ _ (omega (arith, same)) ∙ sym (eq-eqb y x same)
        | inr differ ↦ ne_eqb _ _ (λ e. differ (omega (arith, e))) ∙ sym (ne_eqb y x differ)
      ]

      itself : (t : Bool) → (if t then true else false) ≡ t
      itself true = refl
      itself false = refl

  pub own_held : (property : Property) → held l true value property ≡ is_own u property
  own_held (NotEntryOf e) = by_slot (slot l e) refl
    where
      by_slot : (o : Option ℕ) → slot l e ≡ o → (if is_some o then facts_in value (at_slot 0 o 0) else true) ≡ not (u == e)
      by_slot None none = sym (ap not (no_cell e none))
      by_slot (Some y) there = ap (facts_in value) (zero_first y) ∙ not_bit e y there
        where
          zero_first : (y : ℕ) → 64 * 0 + y ≡ y
          zero_first y = omega arith
  own_held (ComesFrom (EntryOf e)) = by_slot (slot l e) refl
    where
      by_slot : (o : Option ℕ) → slot l e ≡ o → (if is_some o then facts_in value (at_slot (0 + cell_words l) o (no_bit l)) else false) ≡ (u == e)
      by_slot None none = sym (no_cell e none)
      by_slot (Some y) there = entry_bit e y there
  own_held (ComesFrom (Old k)) = by_bound (nat_lt k l.operands)
    where
      by_bound : (t : Bool) → (if t then facts_in value (if t then 64 * (0 + 2 * cell_words l) + k else no_bit l) else false) ≡ false
      by_bound true = high_bit (64 * (0 + 2 * cell_words l) + k) (omega arith)
      by_bound false = refl
  own_held (ComesFrom Undefined) = high_bit (64 * (0 + 2 * cell_words l) + 62) (omega arith)
  own_held (ComesFrom Outside) = high_bit (64 * (0 + 2 * cell_words l) + 63) (omega arith)
  own_held (Pair d p) = by_bound (nat_lt d (places_in l) && nat_lt p (places_in l))
    where
      by_bound : (t : Bool) → (if t then facts_in value (if t then 64 * (0 + 2 * cell_words l + 1 + p) + d else no_bit l) else false) ≡ false
      by_bound true = high_bit (64 * (0 + 2 * cell_words l + 1 + p) + d) (omega arith)
      by_bound false = refl

pub own_put : (l : Layout) (is : IsLayout l) (u x at : ℕ) → slot l u ≡ Some x → at ≡ block_at l x → at + block_words l ≤ row_words l
    → (old part : List ℕ) (k : ℕ) → k ≡ value_words l → length old ≡ row_words l → length part ≡ value_words l → length (put_mid at k old part) ≡ row_words l
    → shown l old Here ≡ true → ((n : ℕ) → facts_in part n ≡ is_own_bit l x n)
    → (fact : Fact) → shown l (put_mid at k old part) fact ≡ with_own u (shown l old) fact
own_put l is u x at has begins ends old part k is_k old_fits part_fits new_fits here bits fact =
    value_put l is old (put_mid at k old part) u at (record { number = x; is_slot = has; begins = begins; ends = ends }) old_fits new_fits part part_fits
    (λ n. facts_put_mid old part at k n (omega (arith, ends, old_fits, is_k)) (part_fits ∙ sym is_k)) fact
    ∙ to_own fact
  where
    to_own : (fact : Fact) → with_value l part u (shown l old) fact ≡ with_own u (shown l old) fact
    to_own Here = refl
    to_own DirectionSet = refl
    to_own (Unwritten k b) = refl
    to_own (Overwrites d c) = refl
    to_own (Has c property) = ap (λ b. if c == u then b else shown l old (Has c property))
        (ap (λ h. held l h part property) here ∙ own_held l is u x has part bits property)

-- ---- all cells

pub cell_with : (l : Layout) (x : ℕ) → IsLayout l → x < cells_in l → (u : ℕ) × (slot l u ≡ Some x)
cell_with l x is lt = elim (cases_lt x (4 * places_in l)) [
  | inl byte ↦ (x, rw (lt-ltb x 148 (omega (arith, byte, is.operands)), lt-ltb x (4 * places_in l) byte) refl)
  | inr other ↦ elim (cases_lt x (4 * places_in l + 6)) [
    | inl flag ↦ (
      148 + (x - 4 * places_in l),
      slot_flag l x (148 + (x - 4 * places_in l)) (omega arith) (omega (arith, flag, other)) (omega (arith, other)),
    )
    | inr word ↦ (
      148 + (x - 4 * places_in l),
      slot_word l x (148 + (x - 4 * places_in l)) (omega (arith, word)) (omega (arith, word, lt)) (omega (arith, word)),
    )
  ]
]
  where
    slot_flag : (l : Layout) (x c : ℕ) → 148 ≤ c → c < 154 → 4 * places_in l + (c - 148) ≡ x → slot l c ≡ Some x
    slot_flag l x c from to is = ap (λ t. if t then (if nat_lt c (4 * places_in l) then Some c else None)
        else if nat_lt c 154 then Some (4 * places_in l + (c - 148))
        else if nat_lt c (154 + 4 * l.words) then Some (4 * places_in l + (6 + (c - 154))) else None) (le-ltb c 148 from)
        ∙ ap (λ t. if t then Some (4 * places_in l + (c - 148))
        else if nat_lt c (154 + 4 * l.words) then Some (4 * places_in l + (6 + (c - 154))) else None) (lt-ltb c 154 to)
        ∙ ap Some is

    slot_word : (l : Layout) (x c : ℕ) → 154 ≤ c → c < 154 + 4 * l.words → 4 * places_in l + (6 + (c - 154)) ≡ x → slot l c ≡ Some x
    slot_word l x c from to is = ap (λ t. if t then (if nat_lt c (4 * places_in l) then Some c else None)
        else if nat_lt c 154 then Some (4 * places_in l + (c - 148))
        else if nat_lt c (154 + 4 * l.words) then Some (4 * places_in l + (6 + (c - 154))) else None) (le-ltb c 148 (omega (arith, from)))
        ∙ ap (λ t. if t then Some (4 * places_in l + (c - 148))
        else if nat_lt c (154 + 4 * l.words) then Some (4 * places_in l + (6 + (c - 154))) else None) (le-ltb c 154 from)
        ∙ ap (λ t. if t then Some (4 * places_in l + (6 + (c - 154))) else None) (lt-ltb c (154 + 4 * l.words) to)
        ∙ ap Some is

module _ (l : Layout) (is : IsLayout l) (s : Facts) where
  none_begun : (o : Option ℕ) → is_begun 0 o ≡ false
  none_begun None = refl
  none_begun (Some x) = le-ltb x 0 (omega arith)

  pub begun_none : (fact : Fact) → s fact ≡ with_owns l 0 s fact
  begun_none Here = refl
  begun_none DirectionSet = refl
  begun_none (Unwritten k b) = refl
  begun_none (Overwrites d c) = refl
  begun_none (Has c property) = sym (ap (λ t. if t then is_own c property else s (Has c property)) (none_begun (slot l c)))

  module _ (i u : ℕ) (has : slot l u ≡ Some i) where
    still_begun : (c : ℕ) → c ≢ u → (o : Option ℕ) → slot l c ≡ o → is_begun (i + 1) o ≡ is_begun i o
    still_begun c differ None there = refl
    still_begun c differ (Some y) there = elim (cases_lt y i) [
      | inl lt ↦ lt-ltb y (i + 1) (omega (arith, lt)) ∙ sym (lt-ltb y i lt)
      | inr ge ↦ le-ltb y (i + 1) (above ge) ∙ sym (le-ltb y i ge)
    ]
      where
        above : i ≤ y → i + 1 ≤ y
        above ge = let other : y ≢ i = λ e. differ (slot_injective l c u i is (there ∙ ap Some e) has) in omega (arith, ge, other)

    pub begun_next : (fact : Fact) → with_own u (with_owns l i s) fact ≡ with_owns l (i + 1) s fact
    begun_next Here = refl
    begun_next DirectionSet = refl
    begun_next (Unwritten k b) = refl
    begun_next (Overwrites d c) = refl
    begun_next (Has c property) = elim (cases_eq c u) [
      | inl same ↦
          ap (λ t. if t then is_own u property else with_owns l i s (Has c property)) (eq-eqb c u same)
          ∙ ap (λ e. is_own e property) (sym same)
          ∙ ap (λ t. if t then is_own c property else s (Has c property))
          (sym (ap (is_begun (i + 1)) (ap (slot l) same ∙ has) ∙ lt-ltb i (i + 1) (omega arith)))
      | inr differ ↦
          ap (λ t. if t then is_own u property else with_owns l i s (Has c property)) (ne_eqb c u differ)
          ∙ ap (λ t. if t then is_own c property else s (Has c property)) (sym (still_begun c differ (slot l c) refl))
    ]

pub length_put_mid : (row part : List ℕ) (at k : ℕ) → at + k ≤ length row → length part ≡ k → length (put_mid at k row part) ≡ length row
length_put_mid row part at k inside fits = simp (length-append, length-take, length-drop) (omega (arith, inside, fits))
