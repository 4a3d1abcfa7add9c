-- One hand put down, and all of them in order.
use Rattle.std.proofs.Common.{◌≡◌, ◌≢◌, ◌⊎◌, inl, inr, ℕ, ◌+◌, ◌*◌, ◌/◌, ◌-◌, ◌<◌, ◌≤◌, ◌==◌, ◌&&◌, ◌||◌, nat_lt, not, List, [], ◌∷◌, ◌++◌, length, take, slice_index, slice_index_or, slice_get, Bool, true, false, IsTrue, Option, None, Some, if◌then◌else◌, refl, sym, ap, subst, ◌∙◌, arith}
use Rattle.std.proofs.lemmas.Bool.{cases_eq, cases_lt, and_parts, and_from, ltb-true, lt-ltb, le-ltb, le-leb, lt-leb, eq-eqb, ne_eqb}
use Rattle.std.proofs.Math.Bool.{and-false}
use Rattle.std.proofs.Math.Path.{fun_ext}
use Rattle.std.proofs.Math.Nat.{mul-le-mul_right, div-mul-le_self, le-div_iff_mul-le}
use Rattle.std.proofs.lemmas.Grind.{take_at_read}
use Rattle.std.proofs.lemmas.List.{take_all}
use Rattle.std.proofs.lemmas.Option.{slice_get_within}
use Rattle.asm_core.proofs.ShapeLaws.{inside_get}
use Rattle.blk_deps.specs.Cells.{is_byte, is_hand, hand_cell, place_of, byte_of}
use Rattle.blk_deps.specs.Facts.{Facts, in_hand, after_reads, is_paired, is_overwriting, after_put, after_puts, dropped}
use Rattle.blk_deps.specs.Ground.{has_bit}
use Rattle.blk_deps.specs.Layout.{IsLayout, places_in, value_words, block_words, row_words, slot, no_bit, cell_bit, overwriter_bit, shown}
use Rattle.blk_deps.specs.Fits.{has_slot, held, hand_words, some_pair, fits_put, FitPuts, AreSharers, HandsHold, PutsDown}
use Rattle.blk_deps.specs.Changes.{is_changed_value, is_changed, with_value, without_overwriters, is_marked, with_marks, with_hands, Puts}
use Rattle.blk_deps.specs.declared.layout.Layout.{Layout}
use Rattle.blk_deps.specs.declared.step.Read.{Read}
use Rattle.blk_deps.specs.declared.step.Put.{Put}
use Rattle.blk_deps.specs.declared.step.Put.TheVariants as puts
use Rattle.blk_deps.specs.declared.fact.Property.{Property}
use Rattle.blk_deps.specs.declared.fact.Property.TheVariants.{NotEntryOf, Pair}
use Rattle.blk_deps.specs.declared.fact.Fact.{Fact}
use Rattle.blk_deps.specs.declared.fact.Fact.TheVariants.{Here, Has, Overwrites, Unwritten, DirectionSet}
use Rattle.dataflow.specs.Bits.{facts_in}
use Rattle.blk_deps.proofs.AnyLemmas.{some_pair_is}
use Rattle.blk_deps.proofs.SlotLemmas.{no_slot_of_byte}
use Rattle.blk_deps.proofs.PropertyLemmas.{has_no_bit}
use Rattle.blk_deps.proofs.FactLemmas.{no_hand}
use Rattle.blk_deps.proofs.ReadLemmas.{some_slot}
use Rattle.blk_deps.proofs.PutLemmas.{changed_is}

-- nothing overwrites a cell of a place that isn't there
pub no_overwriters_past : (l : Layout) (row : List ℕ) (d c : ℕ) → length row ≡ row_words l → places_in l ≤ place_of c → shown l row (Overwrites d c) ≡ false
no_overwriters_past l row d c fits past = elim (cases_lt c 148) [
  | inl byte ↦ ap (λ t. facts_in row (if t then overwriter_bit l d (slot l c) else no_bit l)) (lt-ltb c 148 byte)
      ∙ ap (λ o. facts_in row (overwriter_bit l d o)) (no_slot_of_byte l c byte (omega (arith, past)))
      ∙ nothing
  | inr other ↦ ap (λ t. facts_in row (if t then overwriter_bit l d (slot l c) else no_bit l)) (le-ltb c 148 other) ∙ nothing
]
  where
    nothing : facts_in row (no_bit l) ≡ false
    nothing = has_no_bit l row (omega (arith, fits))

module _ (l : Layout) (is : IsLayout l) (hands : List ℕ) (count : ℕ) (old new : List ℕ) where
  abbrev before : Facts
  before = with_hands l hands count old

  abbrev after : Facts
  after = with_hands l hands count new

  pub hand_holds : (h : ℕ) → h < count → (property : Property) → held l (shown l old Here) (hand_words l hands h) property ≡ before (Has (hand_cell h) property)
  hand_holds h lt property =
      let same : 218 + h - 218 ≡ h = omega arith in
      sym (ap (λ t. if t then (if nat_lt (218 + h - 218) count then held l (shown l old Here) (hand_words l hands (218 + h - 218)) property else shown l old Here)
      else shown l old (Has (218 + h) property)) (le-leb 218 (218 + h) (omega arith))
      ∙ ap (λ k. if nat_lt k count then held l (shown l old Here) (hand_words l hands k) property else shown l old Here) same
      ∙ ap (λ t. if t then held l (shown l old Here) (hand_words l hands h) property else shown l old Here) (lt-ltb h count lt))

  cell_shown : (row : List ℕ) (c : ℕ) → is_hand c ≡ false → (property : Property) → with_hands l hands count row (Has c property) ≡ shown l row (Has c property)
  cell_shown row c cell property =
      ap (λ t. if t then (if nat_lt (c - 218) count then held l (shown l row Here) (hand_words l hands (c - 218)) property else shown l row Here)
      else shown l row (Has c property)) cell

  -- where a cell's facts are as they were, they are so beside the hands
  pub has_kept : (c : ℕ) (property : Property) → shown l new Here ≡ shown l old Here → shown l new (Has c property) ≡ shown l old (Has c property)
      → after (Has c property) ≡ before (Has c property)
  has_kept c property here kept =
      ap (λ b. if is_hand c then (if nat_lt (c - 218) count then held l b (hand_words l hands (c - 218)) property else b) else shown l new (Has c property)) here
      ∙ ap (λ b. if is_hand c then (if nat_lt (c - 218) count then held l (shown l old Here) (hand_words l hands (c - 218)) property else shown l old Here) else b) kept

  module _ (u hand : ℕ) (there : has_slot l u ≡ true) (lt : hand < count) where
    no_hand_cell : is_hand u ≡ false
    no_hand_cell = let x = some_slot (slot l u) there in no_hand l u x.0 is x.1

    -- the value in the hand goes to the cell
    pub value_down : (c : ℕ) (property : Property) → shown l new Here ≡ shown l old Here
        → shown l new (Has c property) ≡ with_value l (hand_words l hands hand) u (shown l old) (Has c property)
        → after (Has c property) ≡ (if c == u then before (Has (hand_cell hand) property) else before (Has c property))
    value_down c property here put = elim (cases_eq c u) [
      | inl same ↦ cell_shown new c (ap is_hand same ∙ no_hand_cell) property ∙ put
          ∙ ap (λ t. if t then held l (shown l old Here) (hand_words l hands hand) property else shown l old (Has c property)) (eq-eqb c u same)
          ∙ hand_holds hand lt property
          ∙ ap (λ t. if t then before (Has (hand_cell hand) property) else before (Has c property)) (sym (eq-eqb c u same))
      | inr differ ↦ has_kept c property here
          (put ∙ ap (λ t. if t then held l (shown l old Here) (hand_words l hands hand) property else shown l old (Has c property)) (ne_eqb c u differ))
          ∙ ap (λ t. if t then before (Has (hand_cell hand) property) else before (Has c property)) (sym (ne_eqb c u differ))
    ]

    pub plain_down : (shares : ℕ → ℕ → Bool) → ((fact : Fact) → shown l new fact ≡ with_value l (hand_words l hands hand) u (shown l old) fact)
        → (fact : Fact) → after fact ≡ after_put shares (puts.Plain u hand) before fact
    plain_down shares put Here = put Here
    plain_down shares put DirectionSet = put DirectionSet
    plain_down shares put (Unwritten k b) = put (Unwritten k b)
    plain_down shares put (Overwrites d c) = put (Overwrites d c)
    plain_down shares put (Has c property) = value_down c property (put Here) (put (Has c property))

    module _ (shares : ℕ → ℕ → Bool) (sharers : List ℕ) (are : AreSharers l shares sharers) (byte : is_byte u ≡ true)
        (old_fits : length old ≡ row_words l) (value_fits : length (hand_words l hands hand) ≡ value_words l) where
      abbrev new_value : Bool
      new_value = is_changed_value l (hand_words l hands hand) u

      overwriting : (c : ℕ) → is_hand c ≡ false → is_overwriting before u hand c ≡ (new_value || is_changed (shown l old) c)
      overwriting c cell =
          ap (λ t. (before (Has (hand_cell hand) (NotEntryOf u)) || t) || (before (Has c (NotEntryOf c)) || is_paired before c))
          (sym (some_pair_is (λ d p. before (Has (hand_cell hand) (Pair d p)))))
          ∙ ap (λ t. t || (before (Has c (NotEntryOf c)) || is_paired before c))
          (sym (changed_is l (shown l old Here) (hand_words l hands hand) (λ property. before (Has (hand_cell hand) property)) u is value_fits there (hand_holds hand lt)))
          ∙ ap (λ t. new_value || (before (Has c (NotEntryOf c)) || t)) (sym (some_pair_is (λ d p. before (Has c (Pair d p)))))
          ∙ ap (λ t. new_value || (t || some_pair (λ d p. before (Has c (Pair d p))))) (cell_shown old c cell (NotEntryOf c))
          ∙ ap (λ test. new_value || (shown l old (Has c (NotEntryOf c)) || some_pair test)) (fun_ext (λ d. fun_ext (λ p. cell_shown old c cell (Pair d p))))

      abbrev word : ℕ
      word = slice_index sharers (place_of u)

      abbrev marked : ℕ → ℕ → Bool
      marked d c = if is_marked u (places_in l) d c then has_bit word (place_of c) && (new_value || is_changed (shown l old) c) else shown l old (Overwrites d c)

      abbrev wanted : ℕ → ℕ → Bool
      wanted d c = if d == place_of u && byte_of c == byte_of u then is_byte c && (shares d (place_of c) && is_overwriting before u hand c)
          else shown l old (Overwrites d c)

      place_there : place_of u < places_in l
      place_there = elim (cases_lt (place_of u) (places_in l)) [
        | inl lt ↦ lt
        | inr ge ↦ absurd (none_there (some_slot (slot l u) there) (no_slot_of_byte l u (ltb-true u 148 byte) (omega (arith, ge))))
      ]
        where
          none_there : ((x : ℕ) × (slot l u ≡ Some x)) → slot l u ≡ None → ⊥
          none_there x none = absurd (some_not_none x.0 (sym x.1 ∙ none))
            where
              some_not_none : (x : ℕ) → Some x ≡ None → ⊥
              some_not_none x e = cc

      -- another cell of the same byte
      marked_there : (d c : ℕ) → c ≢ u → d ≡ place_of u → byte_of c ≡ byte_of u → (place_of c < places_in l) ⊎ (places_in l ≤ place_of c) → marked d c ≡ wanted d c
      marked_there d c differ own same (inl within) =
          let at_byte = ap (λ t. t && byte_of c == byte_of u) (eq-eqb d (place_of u) own) ∙ eq-eqb (byte_of c) (byte_of u) same in
          let other : place_of c ≢ place_of u = λ e. differ (omega (arith, e, same)) in
          let cell : c < 148 = omega (arith, within, is.operands) in
          ap (λ t. if t && (nat_lt (place_of c) (places_in l) && not (place_of c == place_of u)) then has_bit word (place_of c) && (new_value || is_changed (shown l old) c)
          else shown l old (Overwrites d c)) at_byte
          ∙ ap (λ t. if t && not (place_of c == place_of u) then has_bit word (place_of c) && (new_value || is_changed (shown l old) c)
          else shown l old (Overwrites d c)) (lt-ltb (place_of c) (places_in l) within)
          ∙ ap (λ t. if not t then has_bit word (place_of c) && (new_value || is_changed (shown l old) c)
          else shown l old (Overwrites d c)) (ne_eqb (place_of c) (place_of u) other)
          ∙ ap (λ t. t && (new_value || is_changed (shown l old) c)) (are.bits (place_of u) (place_of c) place_there within)
          ∙ ap (λ t. shares (place_of u) (place_of c) && t) (sym (overwriting c (lt-leb 218 c (omega (arith, cell)))))
          ∙ ap (λ p. shares p (place_of c) && is_overwriting before u hand c) (sym own)
          ∙ ap (λ t. t && (shares d (place_of c) && is_overwriting before u hand c)) (sym (lt-ltb c 148 cell))
          ∙ ap (λ t. if t then is_byte c && (shares d (place_of c) && is_overwriting before u hand c) else shown l old (Overwrites d c)) (sym at_byte)
      marked_there d c differ own same (inr past) =
          let at_byte = ap (λ t. t && byte_of c == byte_of u) (eq-eqb d (place_of u) own) ∙ eq-eqb (byte_of c) (byte_of u) same in
          ap (λ t. if t && (nat_lt (place_of c) (places_in l) && not (place_of c == place_of u)) then has_bit word (place_of c) && (new_value || is_changed (shown l old) c)
          else shown l old (Overwrites d c)) at_byte
          ∙ ap (λ t. if t && not (place_of c == place_of u) then has_bit word (place_of c) && (new_value || is_changed (shown l old) c)
          else shown l old (Overwrites d c)) (le-ltb (place_of c) (places_in l) past)
          ∙ no_overwriters_past l old d c old_fits past
          ∙ sym (ap (λ t. is_byte c && (t && is_overwriting before u hand c)) (are.no_second d (place_of c) past) ∙ and-false (is_byte c))
          ∙ ap (λ t. if t then is_byte c && (shares d (place_of c) && is_overwriting before u hand c) else shown l old (Overwrites d c)) (sym at_byte)

      not_marked : (d c : ℕ) → (d == place_of u && byte_of c == byte_of u) ≡ false → marked d c ≡ wanted d c
      not_marked d c none =
          ap (λ t. if t && (nat_lt (place_of c) (places_in l) && not (place_of c == place_of u)) then has_bit word (place_of c) && (new_value || is_changed (shown l old) c)
          else shown l old (Overwrites d c)) none
          ∙ ap (λ t. if t then is_byte c && (shares d (place_of c) && is_overwriting before u hand c) else shown l old (Overwrites d c)) (sym none)

      marked_right : (d c : ℕ) → c ≢ u → (d ≡ place_of u) ⊎ (d ≢ place_of u) → (byte_of c ≡ byte_of u) ⊎ (byte_of c ≢ byte_of u) → marked d c ≡ wanted d c
      marked_right d c differ (inl own) (inl same) = marked_there d c differ own same (cases_lt (place_of c) (places_in l))
      marked_right d c differ (inl own) (inr other) =
          not_marked d c (ap (λ t. d == place_of u && t) (ne_eqb (byte_of c) (byte_of u) other) ∙ and-false (d == place_of u))
      marked_right d c differ (inr another) byte = not_marked d c (ap (λ t. t && byte_of c == byte_of u) (ne_eqb d (place_of u) another))

      pub place_down : ((fact : Fact) → shown l new fact
          ≡ without_overwriters u (with_value l (hand_words l hands hand) u (with_marks (places_in l) word u new_value (shown l old))) fact)
          → (fact : Fact) → after fact ≡ after_put shares (puts.Place u hand) before fact
      place_down put Here = put Here
      place_down put DirectionSet = put DirectionSet
      place_down put (Unwritten k b) = put (Unwritten k b)
      place_down put (Has c property) = value_down c property (put Here) (put (Has c property))
      place_down put (Overwrites d c) = put (Overwrites d c) ∙ elim (cases_eq c u) [
        | inl same ↦ ap (λ t. if t then false else marked d c) (eq-eqb c u same)
            ∙ ap (λ t. if t then false else wanted d c) (sym (eq-eqb c u same))
        | inr differ ↦ ap (λ t. if t then false else marked d c) (ne_eqb c u differ)
            ∙ marked_right d c differ (cases_eq d (place_of u)) (cases_eq (byte_of c) (byte_of u))
            ∙ ap (λ t. if t then false else wanted d c) (sym (ne_eqb c u differ))
      ]

  pub store_down : (shares : ℕ → ℕ → Bool) (k first n : ℕ) → ((fact : Fact) → shown l new fact ≡ after_put shares (puts.Store k first n) (shown l old) fact)
      → (fact : Fact) → after fact ≡ after_put shares (puts.Store k first n) before fact
  store_down shares k first n put Here = put Here
  store_down shares k first n put DirectionSet = put DirectionSet
  store_down shares k first n put (Unwritten j b) = put (Unwritten j b)
  store_down shares k first n put (Overwrites d c) = put (Overwrites d c)
  store_down shares k first n put (Has c property) = has_kept c property (put Here) (put (Has c property))

  pub direction_down : (shares : ℕ → ℕ → Bool) (on : Bool) → ((fact : Fact) → shown l new fact ≡ after_put shares (puts.Direction on) (shown l old) fact)
      → (fact : Fact) → after fact ≡ after_put shares (puts.Direction on) before fact
  direction_down shares on put Here = put Here
  direction_down shares on put DirectionSet = put DirectionSet
  direction_down shares on put (Unwritten j b) = put (Unwritten j b)
  direction_down shares on put (Overwrites d c) = put (Overwrites d c)
  direction_down shares on put (Has c property) = has_kept c property (put Here) (put (Has c property))

-- ---- what fits

pub hand_inside : (h words total : ℕ) → 0 < words → h < total / words → h * words + words ≤ total
hand_inside h words total positive lt =
    let le = mul-le-mul_right {m = h + 1} {n = total / words} words (omega (arith, lt)) in
    let whole = div-mul-le_self total words in
    omega (arith, le, whole)

pub place_fits : (l : Layout) (u hand count : ℕ) (put : Put) → put ≡ puts.Place u hand → IsTrue (fits_put l count put)
    → (is_byte u ≡ true) × (has_slot l u ≡ true) × (hand < count)
place_fits l u hand count put is fits =
    let parts = and_parts (is_byte u && has_slot l u) (nat_lt hand count) (subst (λ p. IsTrue (fits_put l count p)) is fits) in
    let both = and_parts (is_byte u) (has_slot l u) parts.0 in
    (both.0, both.1, ltb-true hand count parts.1)

pub plain_fits : (l : Layout) (u hand count : ℕ) (put : Put) → put ≡ puts.Plain u hand → IsTrue (fits_put l count put)
    → (has_slot l u ≡ true) × (hand < count)
plain_fits l u hand count put is fits =
    let parts = and_parts (has_slot l u) (nat_lt hand count) (subst (λ p. IsTrue (fits_put l count p)) is fits) in
    (parts.0, ltb-true hand count parts.1)

-- ---- in order

after_puts_more : (shares : ℕ → ℕ → Bool) (xs : List Put) (put : Put) (s : Facts) → after_puts shares (xs ++ put ∷ []) s ≡ after_put shares put (after_puts shares xs s)
after_puts_more shares [] put s = refl
after_puts_more shares (x ∷ xs) put s = after_puts_more shares xs put (after_put shares x s)

-- so many are put down
pub record Reached (l : Layout) (sharers hands : List ℕ) (all : List Put) (i : ℕ) (old new : List ℕ) : Type 0 where
  pub each : (shares : ℕ → ℕ → Bool) → AreSharers l shares sharers → (count : ℕ) → FitPuts l count all
      → (fact : Fact) → with_hands l hands count new fact ≡ after_puts shares (take i all) (with_hands l hands count old) fact

pub none_reached : (l : Layout) (sharers hands : List ℕ) (all : List Put) (row : List ℕ) → Reached l sharers hands all 0 row row
none_reached l sharers hands all row = record { each = λ shares are count fits fact. refl }

pub next_reached : (l : Layout) (sharers hands : List ℕ) (all : List Put) (i : ℕ) (put : Put) (old mid new : List ℕ) → i < length all
    → slice_index_or all i put ≡ put → Reached l sharers hands all i old mid → Puts l sharers hands put mid new → Reached l sharers hands all (i + 1) old new
next_reached l sharers hands all i put old mid new lt is reached one = record {
  each = λ shares are count fits fact.
      one.each shares are count (subst (λ p. IsTrue (fits_put l count p)) is (fits i put lt)) fact
      ∙ ap (λ s. after_put shares put s fact) (fun_ext (reached.each shares are count fits))
      ∙ ap (λ s. s fact) (sym (after_puts_more shares (take i all) put (with_hands l hands count old)))
      ∙ ap (λ p. after_puts shares (take i all ++ p ∷ []) (with_hands l hands count old) fact) (sym is)
      ∙ ap (λ xs. after_puts shares xs (with_hands l hands count old) fact) (sym (take_at_read all i put lt).1);
}

hands_read : (l : Layout) (hands row : List ℕ) (reads : List Read) → HandsHold l hands (shown l row) reads → (fact : Fact)
    → with_hands l hands (length reads) row fact ≡ after_reads reads (shown l row) fact
hands_read l hands row reads holds Here = refl
hands_read l hands row reads holds DirectionSet = refl
hands_read l hands row reads holds (Unwritten k b) = refl
hands_read l hands row reads holds (Overwrites d c) = refl
hands_read l hands row reads holds (Has c property) =
    ap (λ b. if is_hand c then b else shown l row (Has c property)) (by_read (slice_get reads (c - 218)) refl)
  where
    by_read : (o : Option Read) → slice_get reads (c - 218) ≡ o
        → (if nat_lt (c - 218) (length reads) then held l (shown l row Here) (hand_words l hands (c - 218)) property else shown l row Here)
        ≡ in_hand (shown l row) (slice_get reads (c - 218)) property
    by_read None none =
        ap (λ t. if t then held l (shown l row Here) (hand_words l hands (c - 218)) property else shown l row Here)
        (le-ltb (c - 218) (length reads) (past (cases_lt (c - 218) (length reads))))
        ∙ ap (λ o. in_hand (shown l row) o property) (sym none)
      where
        past : (c - 218 < length reads) ⊎ (length reads ≤ c - 218) → length reads ≤ c - 218
        past (inr le) = le
        past (inl lt) = let found = inside_get reads (c - 218) lt in absurd (none_some found.0 (sym none ∙ found.1))
          where
            none_some : (r : Read) → None ≡ Some r → ⊥
            none_some r e = cc
    by_read (Some read) some =
        ap (λ t. if t then held l (shown l row Here) (hand_words l hands (c - 218)) property else shown l row Here)
        (lt-ltb (c - 218) (length reads) (slice_get_within reads (c - 218) read some))
        ∙ holds.each (c - 218) read some property
        ∙ ap (λ o. in_hand (shown l row) o property) (sym some)

hands_dropped : (l : Layout) (hands : List ℕ) (count : ℕ) (row : List ℕ) (fact : Fact) → shown l row fact ≡ dropped (with_hands l hands count row) fact
hands_dropped l hands count row Here = refl
hands_dropped l hands count row DirectionSet = refl
hands_dropped l hands count row (Unwritten k b) = refl
hands_dropped l hands count row (Overwrites d c) = refl
hands_dropped l hands count row (Has c property) = by_hand (is_hand c) (cell_bit l c property (slot l c))
  where
    by_hand : (t : Bool) (bit : ℕ) → facts_in row (if t then 0 else bit)
        ≡ (if t then shown l row Here
        else (if t then (if nat_lt (c - 218) count then held l (shown l row Here) (hand_words l hands (c - 218)) property else shown l row Here)
        else facts_in row (if t then 0 else bit)))
    by_hand true bit = refl
    by_hand false bit = refl

pub all_put : (l : Layout) (sharers hands : List ℕ) (all : List Put) (i : ℕ) (old new : List ℕ) → length all ≤ i → Reached l sharers hands all i old new
    → PutsDown l sharers hands all old new
all_put l sharers hands all i old new le reached = record {
  moves = λ reads holds fits. record {
    facts = λ shares are fact.
        hands_dropped l hands (length reads) new fact
        ∙ ap (λ s. dropped s fact) (fun_ext (reached.each shares are (length reads) fits))
        ∙ ap (λ xs. dropped (after_puts shares xs (with_hands l hands (length reads) old)) fact) (take_all i all le)
        ∙ ap (λ s. dropped (after_puts shares all s) fact) (fun_ext (hands_read l hands old reads holds));
  };
}

-- ---- hands enough

more_hands : (l : Layout) (few many : ℕ) → few ≤ many → (put : Put) → IsTrue (fits_put l few put) → IsTrue (fits_put l many put)
more_hands l few many le (puts.Place u hand) fits =
    let parts = and_parts (is_byte u && has_slot l u) (nat_lt hand few) fits in
    and_from _ _ parts.0 (lt-ltb hand many (let lt = ltb-true hand few parts.1 in omega (arith, lt, le)))
more_hands l few many le (puts.Plain u hand) fits =
    let parts = and_parts (has_slot l u) (nat_lt hand few) fits in
    and_from _ _ parts.0 (lt-ltb hand many (let lt = ltb-true hand few parts.1 in omega (arith, lt, le)))
more_hands l few many le (puts.Store k first n) fits = fits
more_hands l few many le (puts.Direction on) fits = fits

pub fit_hands : (l : Layout) (few total : ℕ) (all : List Put) → few * block_words l ≤ total → FitPuts l few all → FitPuts l (total / block_words l) all
fit_hands l few total all le fits k d lt =
    let enough = le-div_from (block_words l) few total (omega arith) le in
    more_hands l few (total / block_words l) enough (slice_index_or all k d) (fits k d lt)
  where
    le-div_from : (words few total : ℕ) → 0 < words → few * words ≤ total → few ≤ total / words
    le-div_from words few total positive le = (le-div_iff_mul-le {k = words} {x = few} {y = total} positive).1 le
