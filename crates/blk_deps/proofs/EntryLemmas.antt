-- The facts of the entry, in a row whose words have been entered.
use Rattle.std.proofs.Common.{◌≡◌, ◌⊎◌, inl, inr, ℕ, ◌+◌, ◌*◌, ◌/◌, ◌%◌, ◌<◌, ◌≤◌, ◌==◌, ◌&&◌, ◌||◌, nat_lt, not, List, length, replicate, slice_index, Bool, true, false, IsTrue, Option, None, Some, if◌then◌else◌, refl, sym, ap, ◌∙◌, arith}
use Rattle.std.proofs.lemmas.Bool.{true≢false, false≢true, and_parts, cases_lt, ltb-true, lt-ltb, le-ltb, ne_eqb}
use Rattle.std.proofs.lemmas.List.{get_or-replicate, get_or_past, length-replicate}
use Rattle.std.proofs.lemmas.Option.{slice_get_past}
use Rattle.std.proofs.Math.Bool.{and-false}
use Rattle.asm_core.specs.declared.interface.Interface.{Interface}
use Rattle.asm_core.specs.declared.interface.OperandIface.{OperandIface}
use Rattle.asm_core.specs.declared.shape.Shape.{Shape}
use Rattle.dataflow.specs.Bits.{facts_in}
use Rattle.blk_deps.specs.Cells.{is_byte, is_hand}
use Rattle.blk_deps.specs.Ground.{has_bit}
use Rattle.blk_deps.specs.Operands.{is_unseen, size_at}
use Rattle.blk_deps.specs.Start.{at_entry}
use Rattle.blk_deps.specs.Layout.{IsLayout, places_in, cells_in, value_words, row_words, block_at, slot, no_bit, cell_bit, absent_bit, overwriter_bit, shown}
use Rattle.blk_deps.specs.Changes.{is_own, is_begun, with_owns, Opens}
use Rattle.blk_deps.specs.declared.layout.Layout.{Layout}
use Rattle.blk_deps.specs.declared.fact.Provenance.TheVariants.{EntryOf, Old, Undefined, Outside}
use Rattle.blk_deps.specs.declared.fact.Property.{Property}
use Rattle.blk_deps.specs.declared.fact.Property.TheVariants.{NotEntryOf, ComesFrom, Pair}
use Rattle.blk_deps.specs.declared.fact.Fact.{Fact}
use Rattle.blk_deps.specs.declared.fact.Fact.TheVariants.{Here, Has, Overwrites, Unwritten, DirectionSet}
use Rattle.blk_deps.proofs.WordLemmas.{has_none}
use Rattle.blk_deps.proofs.SlotLemmas.{slot_inside}
use Rattle.blk_deps.proofs.FactLemmas.{no_hand, shown_unwritten}
use Rattle.blk_deps.proofs.PropertyLemmas.{has_no_bit}

-- what holds of a cell that is a hand, or isn't
abbrev entry_of : Bool → ℕ → Property → Bool
entry_of hand c (NotEntryOf e) = hand || not (c == e)
entry_of hand c (ComesFrom (EntryOf e)) = hand || c == e
entry_of hand c property = hand

hand_entry : (c : ℕ) (property : Property) → entry_of true c property ≡ true
hand_entry c (NotEntryOf e) = refl
hand_entry c (ComesFrom (EntryOf e)) = refl
hand_entry c (ComesFrom (Old k)) = refl
hand_entry c (ComesFrom Undefined) = refl
hand_entry c (ComesFrom Outside) = refl
hand_entry c (Pair d p) = refl

own_entry : (c : ℕ) (property : Property) → is_own c property ≡ entry_of false c property
own_entry c (NotEntryOf e) = refl
own_entry c (ComesFrom (EntryOf e)) = refl
own_entry c (ComesFrom (Old k)) = refl
own_entry c (ComesFrom Undefined) = refl
own_entry c (ComesFrom Outside) = refl
own_entry c (Pair d p) = refl

module _ (l : Layout) (is : IsLayout l) (i : Interface) (live : List Shape) (s : Shape) (unseen : ℕ) (first row : List ℕ)
    (count : l.operands ≡ length i.operands) (tells : (k : ℕ) → k < 32 → has_bit unseen k ≡ is_unseen i live s k)
    (small : (k : ℕ) → IsTrue (is_unseen i live s k) → size_at i k ≤ 64) (bits : (n : ℕ) → facts_in first n ≡ (n == 0))
    (opens : Opens i.operands unseen (length i.operands) first row) (fits : length row ≡ row_words l) where
  nowhere : facts_in row (no_bit l) ≡ false
  nowhere = has_no_bit l row (omega (arith, fits))

  far : (n : ℕ) → (n / 64 ≡ 0) ⊎ (l.operands < n / 64) → facts_in row n ≡ (n == 0)
  far n outside = ap (λ w. has_bit w (n % 64)) (opens.others (n / 64) (elim outside [ inl zero_word ↦ inl zero_word | inr behind ↦ inr (omega (arith, behind, count)) ]))
      ∙ bits n

  here : facts_in row 0 ≡ true
  here = far 0 (inl (omega arith))

  entry_has : (c : ℕ) (property : Property) → at_entry i live s (Has c property) ≡ entry_of (is_hand c) c property
  entry_has c (NotEntryOf e) = refl
  entry_has c (ComesFrom (EntryOf e)) = refl
  entry_has c (ComesFrom (Old k)) = refl
  entry_has c (ComesFrom Undefined) = refl
  entry_has c (ComesFrom Outside) = refl
  entry_has c (Pair d p) = refl

  absent : (c : ℕ) (property : Property) → facts_in row (absent_bit l c property) ≡ entry_of false c property
  absent c (NotEntryOf e) = one_of (c == e)
    where
      one_of : (t : Bool) → facts_in row (if t then no_bit l else 0) ≡ not t
      one_of true = nowhere
      one_of false = here
  absent c (ComesFrom (EntryOf e)) = one_of (c == e)
    where
      one_of : (t : Bool) → facts_in row (if t then 0 else no_bit l) ≡ t
      one_of true = here
      one_of false = nowhere
  absent c (ComesFrom (Old k)) = nowhere
  absent c (ComesFrom Undefined) = nowhere
  absent c (ComesFrom Outside) = nowhere
  absent c (Pair d p) = nowhere

  of_cell : (c : ℕ) (property : Property) (o : Option ℕ) → slot l c ≡ o → (t : Bool) → is_hand c ≡ t
      → (if is_begun (cells_in l) o then is_own c property else facts_in row (if t then 0 else cell_bit l c property o)) ≡ entry_of t c property
  of_cell c property None none true hand = here ∙ sym (hand_entry c property)
  of_cell c property None none false cell = absent c property
  of_cell c property (Some x) has true hand = absurd (true≢false (sym hand ∙ no_hand l c x is has))
  of_cell c property (Some x) has false cell =
      ap (λ t. if t then is_own c property else facts_in row (cell_bit l c property (Some x))) (lt-ltb x (cells_in l) (slot_inside l c x is has))
      ∙ own_entry c property

  no_overwriters : (d c : ℕ) → shown l row (Overwrites d c) ≡ false
  no_overwriters d c = by_slot (is_byte c) (slot l c)
    where
      by_place : (t : Bool) (y : ℕ) → facts_in row (if t then 64 * (block_at l y + value_words l) + d else no_bit l) ≡ false
      by_place true y = far (64 * (block_at l y + value_words l) + d) (inr (omega arith)) ∙ ne_eqb (64 * (block_at l y + value_words l) + d) 0 (λ e. omega (arith, e))
      by_place false y = nowhere

      by_slot : (t : Bool) (o : Option ℕ) → facts_in row (if t then overwriter_bit l d o else no_bit l) ≡ false
      by_slot false o = nowhere
      by_slot true None = nowhere
      by_slot true (Some y) = by_place (nat_lt d (places_in l)) y

  -- operands that aren't there have no bytes, and those that aren't seen at most 64
  not_opened : (k b : ℕ) → (l.operands ≤ k) ⊎ (64 ≤ b) → (is_unseen i live s k && nat_lt b (size_at i k)) ≡ false
  not_opened k b (inl past) =
      ap (λ (o : Option _). is_unseen i live s k && nat_lt b (elim o [ None ↦ 0 | Some x ↦ x.size ])) (slice_get_past i.operands k (omega (arith, past, count)))
      ∙ ap (λ t. is_unseen i live s k && t) (le-ltb b 0 (omega arith)) ∙ and-false (is_unseen i live s k)
  not_opened k b (inr big) = by_unseen (is_unseen i live s k) refl
    where
      by_unseen : (t : Bool) → is_unseen i live s k ≡ t → (t && nat_lt b (size_at i k)) ≡ false
      by_unseen true hidden = let le = small k hidden in le-ltb b (size_at i k) (omega (arith, big, le))
      by_unseen false seen = refl

  unwritten : (k b : ℕ) (t : Bool) → (nat_lt k l.operands && nat_lt b 64) ≡ t
      → facts_in row (if t then 64 * (1 + k) + b else no_bit l) ≡ (is_unseen i live s k && nat_lt b (size_at i k))
  unwritten k b true there =
      let parts = and_parts (nat_lt k l.operands) (nat_lt b 64) there in
      let known = ltb-true k l.operands parts.0 in
      let lt = ltb-true b 64 parts.1 in
      ap (λ t. facts_in row (if t then 64 * (1 + k) + b else no_bit l)) (sym there)
      ∙ sym (shown_unwritten l row k b known lt)
      ∙ opens.opened k b (omega (arith, known, count)) lt
      ∙ ap (λ t. t && nat_lt b (size_at i k)) (tells k (omega (arith, known, is.operands)))
  unwritten k b false gone = nowhere ∙ sym (not_opened k b (outside (cases_lt k l.operands) (cases_lt b 64)))
    where
      outside : (k < l.operands) ⊎ (l.operands ≤ k) → (b < 64) ⊎ (64 ≤ b) → (l.operands ≤ k) ⊎ (64 ≤ b)
      outside (inr past) which = inl past
      outside (inl lt) (inr big) = inr big
      outside (inl lt) (inl less) = absurd (false≢true (sym gone ∙ ap (λ t. t && nat_lt b 64) (lt-ltb k l.operands lt) ∙ lt-ltb b 64 less))

  pub entered : (fact : Fact) → with_owns l (cells_in l) (shown l row) fact ≡ at_entry i live s fact
  entered Here = here
  entered DirectionSet = far 1 (inl (omega arith))
  entered (Has c property) = of_cell c property (slot l c) refl (is_hand c) refl ∙ sym (entry_has c property)
  entered (Overwrites d c) = no_overwriters d c
  entered (Unwritten k b) = unwritten k b _ refl

blank_word : (count j : ℕ) → slice_index (replicate count 0) j ≡ 0
blank_word count j = elim (cases_lt j count) [
  | inl lt ↦ get_or-replicate count j 0 0 lt
  | inr ge ↦ get_or_past (replicate count 0) j 0 (let size = length-replicate {A = ℕ} count 0 in omega (arith, ge, size))
]

pub blank_first : (count : ℕ) (row first : List ℕ) → row ≡ replicate count 0 → ((n : ℕ) → facts_in first n ≡ (if n == 0 then true else facts_in row n))
    → (n : ℕ) → facts_in first n ≡ (n == 0)
blank_first count row first blank bits n =
    bits n ∙ ap (λ b. if n == 0 then true else b) (ap (λ xs. facts_in xs n) blank ∙ ap (λ w. has_bit w (n % 64)) (blank_word count (n / 64)) ∙ has_none (n % 64))
    ∙ itself (n == 0)
  where
    itself : (t : Bool) → (if t then true else false) ≡ t
    itself true = refl
    itself false = refl

pub here_entered : (operands : List OperandIface) (unseen count : ℕ) (first row : List ℕ) → ((n : ℕ) → facts_in first n ≡ (n == 0))
    → Opens operands unseen count first row → facts_in row 0 ≡ true
here_entered operands unseen count first row bits opens = ap (λ w. has_bit w (0 % 64)) (opens.others 0 (inl refl)) ∙ bits 0

pub blank_size : (count : ℕ) (row : List ℕ) → row ≡ replicate count 0 → length row ≡ count
blank_size count row blank = ap length blank ∙ length-replicate {A = ℕ} count 0
